pub mod Runs
pub mod Lines
pub mod Verdicts
pub mod Feeds
mod Steps
