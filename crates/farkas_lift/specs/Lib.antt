pub mod Joined
pub mod NodeEqualities
pub mod NodeSides
pub mod NodeSystem
pub mod NodeLifting
