-- Contexts: a message's context in bytes. Lengths: how long messages are. Shapes: what a right shape says. RoundTrip: messages and their bytes say the same.
-- Accepted: what callers use of a message that was accepted. Cases: worked cases of document 01.
pub mod Contexts
pub mod Lengths
pub mod Shapes
pub mod RoundTrip
pub mod Accepted
pub mod Cases
