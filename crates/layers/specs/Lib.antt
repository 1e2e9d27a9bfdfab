-- Laying over, in any order: any number of scans, laid over one another by calls in any grouping, give one list.
pub mod Calls
pub mod OneCall
pub mod Largest
pub mod AnyOrder
