pub mod Numbers
pub mod Reductions
pub mod States
pub mod Stops
pub mod Beside
pub mod BesideStates
