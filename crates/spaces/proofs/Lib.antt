pub mod MultipleSteps
pub mod SumSteps
