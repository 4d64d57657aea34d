pub mod Readings
pub mod Whole
