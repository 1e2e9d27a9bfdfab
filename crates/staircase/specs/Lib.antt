-- The staircase of the pixels done, and its border.
pub mod Staircase
pub mod FirstBlocks
pub mod Edges
pub mod Walk
pub mod Border
pub mod Rows
pub mod NextBlock
