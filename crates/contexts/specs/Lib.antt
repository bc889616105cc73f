-- Inserting: a dot put in its place among the dots of a tombstone.
pub mod Inserting
