-- Slots: a table that tells most dots that are not in a list.
pub mod Slots
