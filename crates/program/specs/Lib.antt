-- What the programs do.
pub mod Ran
pub mod SameText
