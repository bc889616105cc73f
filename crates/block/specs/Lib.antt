-- Block: a state in bytes, and back.
pub mod Block
