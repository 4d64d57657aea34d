pub mod Settings
pub mod Spot
pub mod Steps
