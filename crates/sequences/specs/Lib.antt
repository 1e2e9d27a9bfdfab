-- Lists and numbers.
pub mod Over
pub mod Tails
pub mod Maps
pub mod Ranges
pub mod Powers
pub mod Induction
pub mod Cases
pub mod Same
pub mod Says
pub mod Fill
pub mod Differences
pub mod SignedBits
