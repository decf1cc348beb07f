pub mod TableReading
pub mod TableVerdicts
pub mod TableCauses
pub mod EndsSeen
