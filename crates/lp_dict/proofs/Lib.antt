pub mod ListSteps
pub mod RowSteps
pub mod FlatSteps
pub mod PivotSteps
pub mod DictSteps
pub mod FirstSteps
pub mod TableSteps
