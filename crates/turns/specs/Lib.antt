-- Turns at the cutter where a caller stands: one call, and calls one after the other.
pub mod Calls
pub mod Runs
pub mod Made
pub mod Due
pub mod Fairness
pub mod Handed
