pub mod Vector
pub mod Rows
pub mod Agree
