-- State: what a state and its store stand for. Damage: refusal 1. Effect: a machine's state written back. Refusals: the tests of the table.
-- Calls: the calls on bytes. Image, ImageRead, HandOff: hand-off images, written, read and loaded; HandedOff: what they promise. Sequence: calls in a row. Demand3: the claim about every sequence. Network: the same over a network, with no proviso. Room: room after a compaction. Pages: what pages are on an unchanged state.
-- Promise: what each public call promises.
-- Exchange: round trips over whole calls. Unchanged: what refusals and empty removes leave. Cases: the settled cases of document 01. ImageCases: cases of images. Line: its other
-- cases, and more. Order: the order of refusals. DamageCases: each rule of an undamaged state. Premises: those of demand 3, met and broken.
pub mod State
pub mod Damage
pub mod Effect
pub mod Refusals
pub mod Calls
pub mod Image
pub mod ImageRead
pub mod HandOff
pub mod HandedOff
pub mod Sequence
pub mod Demand3
pub mod Network
pub mod Room
pub mod Pages
pub mod Promise
pub mod Exchange
pub mod Unchanged
pub mod Cases
pub mod ImageCases
pub mod Line
pub mod Order
pub mod DamageCases
pub mod Premises
