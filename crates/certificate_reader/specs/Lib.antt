pub mod CertificateReading
pub mod CertificateVerdicts
pub mod CertificateCauses
