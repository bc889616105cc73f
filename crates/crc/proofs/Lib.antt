-- Xor: laws of exclusive or. Steps: the bits of a byte at once, by the table. Injections: registers stay apart, and one changed byte changes the CRC. Cases: the check value.
pub mod Xor
pub mod Steps
pub mod Injections
pub mod Cases
