pub mod Columns
pub mod Sizes
pub mod Steps
