mod Walks
mod Ends
pub mod Stops
mod Raises
mod Thins
mod Packs
mod Losses
