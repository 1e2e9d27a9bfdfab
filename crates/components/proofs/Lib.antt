-- What is proved of regions, their numbers and the walk over the blocks.
pub mod Joined
pub mod Neighbours
pub mod Numbered
pub mod ConnectedSquares
pub mod Labels
pub mod LinkedBlocks
pub mod BlockNumbers
pub mod Walked
