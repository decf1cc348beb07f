-- Of what two sides are made.
pub mod Made
