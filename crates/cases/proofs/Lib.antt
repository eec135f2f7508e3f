pub mod Changing
pub mod Tabs
