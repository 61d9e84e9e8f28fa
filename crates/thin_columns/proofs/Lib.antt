pub mod ColumnSteps
pub mod SizeSteps
pub mod RoomSteps
pub mod SystemSteps
pub mod StepSteps
