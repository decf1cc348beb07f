-- Laws of the readers of certificates and relations, for the proofs of this crate and of those above it.
pub mod CertificateTestLaws
pub mod CertificateCauseLaws
pub mod CertificateLaws
