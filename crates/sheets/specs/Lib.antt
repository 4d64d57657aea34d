pub mod Settings
pub mod Sheets
pub mod Steps
pub mod Studies
