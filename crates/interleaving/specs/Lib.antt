-- Location codes: what they mean, and the laws of interleaving.
pub mod Codes
pub mod Interleaving
pub mod Splitting
pub mod Spreads
pub mod Spreading
pub mod Gathering
pub mod Parting
