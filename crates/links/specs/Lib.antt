-- The outlines of an image; the blocks of a region one after the other, and where along them outlines start.
pub mod Image
pub mod Rising
pub mod TopRows
pub mod Links
pub mod Candidates
pub mod Ahead
pub mod FirstCycles
pub mod Forward
pub mod Relabelled
pub mod Linking
pub mod OverTwice
