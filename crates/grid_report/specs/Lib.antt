pub mod Errors
pub mod Grids
