pub mod Images
pub mod Passes
pub mod Answer
pub mod Face
