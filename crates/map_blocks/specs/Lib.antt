-- The image of a map of regions with a colour for each, and the pass that writes its blocks, four pixels at a time.
pub mod Fours
pub mod Pixels
pub mod Appended
pub mod Painting
pub mod Pass
