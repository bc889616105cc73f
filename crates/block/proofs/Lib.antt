-- Blocks: a state and its block say the same. Filled: fields put into a block one after the other. Copied: fields copied out of a block.
pub mod Blocks
mod Filled
mod Copied
