pub mod Range
pub mod Sign
pub mod Order
