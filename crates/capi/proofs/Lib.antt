-- Calls: what a call leaves of a block, and of bytes that are none. Refused: a refused call keeps every lent byte.
-- Formats: keys and messages, read and written.
mod Calls
pub mod Refused
mod Formats
