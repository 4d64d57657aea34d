pub mod Order
pub mod Keeps
pub mod Looks
