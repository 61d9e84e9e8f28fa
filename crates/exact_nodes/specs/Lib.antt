pub mod ThinMoves
pub mod Programs
pub mod Regions
pub mod NodeExcuses
pub mod PathExcuses
pub mod ExactMoves
