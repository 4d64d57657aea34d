pub mod Tables
pub mod Lent
pub mod Calls
pub mod Bulk
