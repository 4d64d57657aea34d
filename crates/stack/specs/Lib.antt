pub mod Stack
pub mod Walk
pub mod Touch
pub mod Worked
