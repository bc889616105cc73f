-- Reading: where a key ends.
pub mod Reading
