-- Work: what taking in tests and counts on.
pub mod Work
