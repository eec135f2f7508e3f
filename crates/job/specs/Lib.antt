pub mod ShearCall
pub mod Distribution
pub mod Job
pub mod InTurn
pub mod Towers
pub mod Moves
