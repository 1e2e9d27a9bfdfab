-- The map with a margin that a list holds in rows, and the rule of steps in the code's numbers.
pub mod Look
pub mod Rule
