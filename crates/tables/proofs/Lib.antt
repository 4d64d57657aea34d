mod Scores
pub mod Bulk
