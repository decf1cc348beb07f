-- The form in which two read tables and a relation are handed on: a side, and the theory's view of two sides.
pub mod Side
pub mod Built
pub mod Building
pub mod Views
