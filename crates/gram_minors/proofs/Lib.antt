pub mod WorkedStages
