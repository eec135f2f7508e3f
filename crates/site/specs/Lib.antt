pub mod Table2
pub mod Coefficients
pub mod Capacity
pub mod Lines
pub mod SiteHazards
pub mod Table4
pub mod Basin
pub mod Ground
