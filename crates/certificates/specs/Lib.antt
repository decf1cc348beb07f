pub mod Layout
pub mod CertificateModel
