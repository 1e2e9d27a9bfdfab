-- Given cycles against a map of regions: what is asked and promised, the loop over the cycles and their order, the last pass over the map.
pub mod Promise
pub mod Ranks
pub mod Checking
pub mod LastPass
pub mod Answered
