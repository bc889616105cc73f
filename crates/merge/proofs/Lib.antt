-- Handing: which first key the step hands back. Splits: the merge of two sides, label by label. Sizes: how long it is.
-- Runs, Heads, NextLabels: the label that comes next, and its keys in both stores. DotOrders, Turns: its dots, the lower one first.
-- Puts, KeptDots, MergedLines, AllLines: dots, a line, all lines put out. BothSides: two tombstones end to end.
pub mod Handing
pub mod Splits
pub mod Sizes
pub mod Runs
pub mod Heads
pub mod NextLabels
pub mod DotOrders
pub mod Turns
pub mod Puts
pub mod KeptDots
pub mod MergedLines
pub mod AllLines
pub mod BothSides
