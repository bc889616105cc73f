-- Judging: what is judged of a state, and what one pass over state and store tells.
pub mod Judging
