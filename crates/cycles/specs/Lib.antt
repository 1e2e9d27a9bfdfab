-- The map of regions with its marks, the walk along one cycle, and what writing one cycle promises.
pub mod Mapped
pub mod Marks
pub mod Areas
pub mod Promise
pub mod Points
pub mod Rounds
pub mod CycleStarts
pub mod Straight
pub mod Walking
pub mod Turns
pub mod Written
