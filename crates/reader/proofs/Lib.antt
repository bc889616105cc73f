-- KeyEnds: what a caller knows of where a key ends.
pub mod KeyEnds
