-- Step: the lower of two first keys. Sides: two sides of a merge, and their merged listing. Labels: the label that comes next. Kept: its dots.
-- Lines: lines put out.
pub mod Step
pub mod Sides
pub mod Labels
pub mod Kept
pub mod Lines
