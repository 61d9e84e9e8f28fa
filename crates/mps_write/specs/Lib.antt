pub mod PlainModels
pub mod CanonicalText
pub mod Markets
