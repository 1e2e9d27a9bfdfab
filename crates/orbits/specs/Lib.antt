-- The pigeonhole, members of lists, iterates and orbits, starts of orbits.
pub mod Pigeon
pub mod Members
pub mod Finding
pub mod InOrder
pub mod Orbits
pub mod Starts
pub mod StepsTo
