-- Filling: the slots of a list's dots, set one after the other.
pub mod Filling
