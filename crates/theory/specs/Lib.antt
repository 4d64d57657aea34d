pub mod Runs
pub mod Faithful
