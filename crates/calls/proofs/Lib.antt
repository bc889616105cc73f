-- Validity: rules of dots and entries that effects keep. Decided: refused calls, accepted calls. Reading: what is written back is read again.
-- Clauses: what undamaged says. Guard, Applied, Accepted, TakenIn, TakingOver: what a call's acceptance says. Instance: the calls as a controller of the machine.
-- Paging: pages. Sequences: calls in a row. Demand3: demand 3. Networks: over a network, without its proviso. Room: room after a compaction. OwnRow, Whole, Undamaged: an accepted call leaves an undamaged state. Exchange: round trips over calls.
-- Lookups: lookup against the listing. ImageRows, ImageShapes, ImageCrc, ImageTrip, ImageStates: hand-off images, written and read. Loading: images loaded. ChangedByte: images with a byte changed. HandedOff: what images promise. Unchanged: refusals and empty removes. Cases: the tables of cases. Premises: an instance of demand 3's.
pub mod Validity
pub mod Decided
pub mod Reading
pub mod Clauses
pub mod Guard
pub mod Applied
pub mod Accepted
pub mod TakenIn
pub mod TakingOver
pub mod Instance
pub mod Paging
pub mod Sequences
pub mod Demand3
pub mod Networks
pub mod Room
pub mod OwnRow
pub mod Sized
pub mod Whole
pub mod Undamaged
pub mod Exchange
pub mod Lookups
pub mod ImageRows
pub mod ImageShapes
pub mod ImageCrc
pub mod ImageTrip
pub mod ImageStates
pub mod Loading
pub mod ChangedByte
pub mod HandedOff
pub mod Unchanged
pub mod Cases
pub mod Premises
