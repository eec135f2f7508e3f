pub mod Changed
pub mod Entered
pub mod Said
