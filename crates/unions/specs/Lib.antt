-- Classes under a list of pairs, and forests of parents that stand for them.
pub mod Pairs
pub mod Representatives
pub mod Classes
pub mod Counting
pub mod Roots
pub mod OwnParents
pub mod Halving
pub mod Joining
pub mod RootNumbers
