pub mod NodePoints
pub mod Ranges
pub mod Checks
pub mod RationalPoints
pub mod RationalPointLaws
