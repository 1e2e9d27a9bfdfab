-- What is read off the table of dials.
pub mod Sayings
