-- Squares of one colour, and a block that grows by them.
pub mod Squares
pub mod Growing
pub mod Others
