pub mod Entered
pub mod Weighed
pub mod Row
pub mod Report
pub mod Tally
pub mod District
