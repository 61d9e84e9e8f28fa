pub mod WholeRows
pub mod FlatRows
pub mod Ends
pub mod Stops
pub mod WeightLaws
pub mod EndLaws
