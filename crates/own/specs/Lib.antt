-- Work: what the two calls test, count on and leave.
pub mod Work
