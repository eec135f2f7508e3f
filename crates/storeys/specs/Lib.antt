pub mod Storeys
pub mod Exact
pub mod Reach
