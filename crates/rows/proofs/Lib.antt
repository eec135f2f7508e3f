pub mod Reading
pub mod Filling
pub mod Unique
