pub mod ImageSteps
pub mod OneRecord
pub mod Imaging
pub mod Recording
pub mod Facing
