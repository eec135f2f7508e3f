pub mod Whole
pub mod Bounds
pub mod Corners
pub mod Capacities
pub mod Rising
