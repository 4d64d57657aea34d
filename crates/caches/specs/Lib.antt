pub mod Caches
pub mod Includes
pub mod Partition
pub mod Views
