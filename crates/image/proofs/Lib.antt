-- Rows: one row more, written and read, and one row of those read. Puts: fields put one after the other. Written: what writing an image leaves. Fields: fields read. Tables: the refusals as the code answers them, and what is known where none holds.
pub mod Rows
pub mod Puts
pub mod Written
pub mod Fields
pub mod Tables
