-- Compaction: what it leaves of keys. Runs: the steps of its walk.
pub mod Compaction
pub mod Runs
