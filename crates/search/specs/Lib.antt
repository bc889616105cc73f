-- Marks: which bytes of a word are 0.
pub mod Marks
