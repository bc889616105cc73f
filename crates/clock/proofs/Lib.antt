-- Bits: bits of a window, and the run of low ones. Rows: one row. Offered: several counters joined, refusal 10. Union: two rows.
-- Clocks: 16 rows. Reaching: refusal 10 decided over ascending dots. Contexts: a context offered, without or with one more dot.
pub mod Bits
pub mod Rows
pub mod Offered
pub mod Union
pub mod Clocks
pub mod Reaching
pub mod Contexts
