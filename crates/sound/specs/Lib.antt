pub mod Weights
pub mod Questions
pub mod Face
pub mod OneRecord
pub mod Passing
pub mod Head
pub mod Counting
