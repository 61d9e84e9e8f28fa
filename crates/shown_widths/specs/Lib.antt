pub mod Columns
pub mod Limits
pub mod Points
pub mod Steps
pub mod Thin
