-- ZeroBytes: the first 0, by words. CommonStart: byte order after a common start, by words. Pieces: a common start, by pieces of several bytes that may overlap.
pub mod ZeroBytes
pub mod CommonStart
pub mod Pieces
