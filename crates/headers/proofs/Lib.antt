-- Laws that several proofs share.
pub mod Places
pub mod Digits
