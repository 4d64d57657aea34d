pub mod Padded
pub mod Apart
pub mod Rows
pub mod Stands
pub mod Worlds
pub mod Frames
pub mod Steps
