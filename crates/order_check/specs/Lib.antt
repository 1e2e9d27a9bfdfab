-- The check of an order: what it promises, the walks along the order, and the order judged by the parents of the regions.
pub mod Promise
pub mod Along
pub mod Regions
pub mod Accepting
pub mod Callers
