pub mod NumberSteps
pub mod ProductSteps
pub mod MultipleSteps
pub mod TestSteps
pub mod BestSteps
pub mod TurnSteps
pub mod ImproveSteps
