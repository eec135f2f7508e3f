pub mod Answering
pub mod Drift
pub mod Torsion
pub mod Accidental
pub mod Reach
pub mod Reversed
