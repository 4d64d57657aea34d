pub mod Faults
pub mod Worked
