pub mod Lines
pub mod Sixes
pub mod Pieces
