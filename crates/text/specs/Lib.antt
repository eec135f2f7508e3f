pub mod Bytes
pub mod Reading
pub mod Number
pub mod Line
pub mod Writing
