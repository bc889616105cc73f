-- OwnAdd, OwnRemove: the two calls.
pub mod OwnAdd
pub mod OwnRemove
