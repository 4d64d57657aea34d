pub mod Refused
pub mod Inputs
pub mod Reports
pub mod Settings
