pub mod PairSteps
pub mod SumSteps
pub mod ProgramSteps
pub mod GaugeSteps
pub mod NarrowSteps
pub mod PairGauges
