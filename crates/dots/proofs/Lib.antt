-- Table: a table of refusals. Orders: the orders of dots, labels and entries. Rules: what the rules of dots say. Lines: the lines of a listing.
-- Iterating: loops and chains over the dots that bytes hold. Loops: dots by their places in bytes. RoundTrip: dots and their bytes.
pub mod Table
pub mod Orders
pub mod Rules
pub mod Lines
pub mod Iterating
pub mod Loops
pub mod RoundTrip
