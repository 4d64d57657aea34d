pub mod Blocks
pub mod Nexts
