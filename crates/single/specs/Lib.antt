pub mod Calls
pub mod Lent
pub mod Limits
pub mod Runs
