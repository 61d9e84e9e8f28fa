pub mod Terms
pub mod Comparisons
pub mod BinaryGcd
pub mod Lowering
pub mod CommonMultiples
