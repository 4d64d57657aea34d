pub mod Items
pub mod Refusals
pub mod Next
pub mod Operations
pub mod Text
pub mod Records
