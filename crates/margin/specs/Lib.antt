pub mod Roots
pub mod Demand3
