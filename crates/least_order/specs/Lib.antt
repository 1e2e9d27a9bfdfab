-- The least order: what giving it promises, the children counted, the order written, and both for the regions of a list.
pub mod Promise
pub mod Counts
pub mod Arranged
pub mod Regions
pub mod Accepting
pub mod Callers
