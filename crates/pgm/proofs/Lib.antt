-- Laws of the loops.
pub mod Search
pub mod Sampling
