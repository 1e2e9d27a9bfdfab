-- Regions of an image and their numbers.
pub mod Joined
pub mod Numbers
pub mod Numbered
pub mod Holders
pub mod LastBlocks
pub mod BlockPairs
pub mod Spans
pub mod Walk
