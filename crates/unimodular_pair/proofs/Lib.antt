pub mod ColumnSteps
pub mod RowSteps
pub mod CompleteSteps
