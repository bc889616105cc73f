-- Compacting: compaction.
pub mod Compacting
