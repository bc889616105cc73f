-- Runs: a run of kept keys, moved, and one key more. Compaction: the walk that drops keys. CompactedEntries: compaction of entries.
pub mod Runs
pub mod Compaction
pub mod CompactedEntries
