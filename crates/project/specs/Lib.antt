pub mod Passing
pub mod Marks
pub mod Answer
pub mod Face
