pub mod FractionLaws
pub mod NodeNumbers
pub mod NodeSums
pub mod Refuting
