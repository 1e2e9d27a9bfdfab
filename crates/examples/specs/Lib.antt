-- Dials to try.
pub mod Dials
pub mod Table
