-- Row: one actor's row. Offered: several counters at once, refusal 10. Union: what either of two rows sees. Code: the code's row.
-- Clock: the clock of 16 rows. Reach: refusal 10 decided over ascending dots.
pub mod Row
pub mod Offered
pub mod Union
pub mod Code
pub mod Clock
pub mod Reach
