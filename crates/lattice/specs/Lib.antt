-- Points, directions, walks, corners, cycle form and areas.
pub mod Parity
pub mod Directions
pub mod Walks
pub mod CycleForm
pub mod Straight
pub mod Corners
pub mod Legs
pub mod Outlines
pub mod Closing
pub mod Forms
pub mod Area
