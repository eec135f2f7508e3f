pub mod Shears
pub mod Share
pub mod Exact
pub mod Ready
pub mod Moves
