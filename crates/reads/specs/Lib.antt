-- Reads: what the calls that only read count on, and what lines put out give.
pub mod Reads
