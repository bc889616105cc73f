-- Clock: what the machine asks of a clock. Machine: a controller on lists. Shrinking: dropping keys. Rule: demand 3's rule. Demand3: what is proved of every controller.
-- Page: pages of a listing. Read: reads of racks, and the merge of two. RowClock: the clock of 16 rows as the machine's clock. Cases: slips, compactions and merges as runs of the machine.
-- Network: lives that exchange messages, where nobody forges an add and no actor is given out twice.
pub mod Clock
pub mod Machine
pub mod Shrinking
pub mod Rule
pub mod Demand3
pub mod Page
pub mod Read
pub mod RowClock
pub mod Cases
pub mod Network
