-- Squares, levels and places by location codes.
pub mod Squares
pub mod Levels
pub mod TopLevels
pub mod Places
