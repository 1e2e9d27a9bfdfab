-- How far the listing has come, and what one pixel, one row and one block add to it.
pub mod Progress
pub mod Unmarked
pub mod Pixels
pub mod Rows
pub mod Blocks
