mod Asked
mod Fed
mod Lent
mod Writes
pub mod Lengths
mod Kept
mod Looked
mod Sought
