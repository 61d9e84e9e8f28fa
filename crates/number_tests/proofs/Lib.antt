pub mod IndependentRows
