pub mod Below
pub mod Lists
pub mod Numbers
