-- Runs, rows and squares of a list that holds an image row by row, and what filling them leaves.
pub mod Rows
pub mod Quadrants
pub mod Filling
pub mod Fours
pub mod BlockByBlock
