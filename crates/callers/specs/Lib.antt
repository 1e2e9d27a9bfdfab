-- What the promises of the library's functions say where a caller stands.
pub mod Demand3
pub mod PathData
pub mod LaidOver
pub mod TouchedUp
pub mod AreasAddUp
pub mod Cutting
pub mod GivenBack
pub mod ByTurns
