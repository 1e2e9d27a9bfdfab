-- The lines of a listing, and how they are written cycle by cycle.
pub mod Lines
pub mod LineEnds
pub mod Writing
