pub mod Used
pub mod Listed
pub mod Tallies
pub mod Counting
pub mod Inclusion
pub mod Pasts
pub mod Viewed
