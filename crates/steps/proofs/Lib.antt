-- SameName: refusal 7. DotLoops: the largest counter. Joining, TombstoneBytes, Performed, Adds: applying a context and an add.
-- Answers, Passed: tables of refusals in a row, and what the first of them leave to go on with.
pub mod SameName
pub mod DotLoops
pub mod Joining
pub mod TombstoneBytes
pub mod Performed
pub mod Answers
pub mod Adds
pub mod Passed
