-- Cases: slips, compactions, hand-offs and merges as runs of the machine. Shrinking: dropping keys leaves the listing. Invariant: what ties a state to the rule's sets, and that every accepted call keeps it. Listings: the rule's listing.
-- Merges: the merge of two reads. Walk: two ascending lists walked side by side. Theorems: demand 3. Networks: its proviso, proved over a network.
-- Matching: tests of labels, of entries and of lines. Pages: pages of a listing. RowClock: demand 3 over the clock of 16 rows. Instance: the machine as a controller. NetworkCases: networks of a few lives, and what goes wrong in others.
pub mod Cases
pub mod Shrinking
pub mod Invariant
pub mod Listings
pub mod Merges
pub mod Walk
pub mod Theorems
pub mod Networks
pub mod Matching
pub mod Pages
pub mod RowClock
pub mod Instance
pub mod NetworkCases
