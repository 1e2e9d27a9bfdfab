-- What the numbering of regions promises, and the laws its loops follow.
pub mod Promise
pub mod Labelling
pub mod Bounds
pub mod Callers
pub mod Results
