pub mod Table
pub mod Model
