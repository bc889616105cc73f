-- Listing: the lines of a store and their bytes. Lines: the line at the front of keys, and what its keys say.
pub mod Listing
pub mod Lines
