pub mod Finding
pub mod Held
pub mod Nodes
pub mod Parts
pub mod Settling
pub mod Slices
pub mod Values
pub mod Wholes
