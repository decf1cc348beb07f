-- Laws of the C interface.
pub mod InterfaceLaws
