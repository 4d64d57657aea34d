pub mod Times
pub mod Lists
pub mod Kept
pub mod Blocks
pub mod Stacks
