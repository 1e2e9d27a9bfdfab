-- The stretch of one cycle.
pub mod Stretch
