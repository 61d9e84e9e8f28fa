pub mod Cleared
pub mod WholeVectorLaws
pub mod ClearedLaws
