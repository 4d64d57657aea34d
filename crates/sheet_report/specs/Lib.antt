pub mod Settings
pub mod Evening
