pub mod Parts
pub mod Candidates
pub mod Stops
pub mod Choices
pub mod BoundLaws
