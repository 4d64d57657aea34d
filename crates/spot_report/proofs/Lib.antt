pub mod Feeds
pub mod Underway
pub mod Turns
pub mod Figures
pub mod Whole
