pub mod Velocity
pub mod Times
pub mod Class
pub mod Log
pub mod Exact
pub mod Applies
