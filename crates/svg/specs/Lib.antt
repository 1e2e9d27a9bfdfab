-- Path data.
pub mod Stores
pub mod Svg
pub mod PathSoFar
