pub mod Cells
pub mod Simulation
pub mod Held
pub mod Bound
