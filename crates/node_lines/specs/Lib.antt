pub mod NodeSystems
pub mod NodeLines
pub mod Combinations
pub mod SystemLaws
