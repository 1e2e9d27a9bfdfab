-- What lists of cycles hold.
pub mod Held
