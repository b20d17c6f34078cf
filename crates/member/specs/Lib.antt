pub mod Rows
pub mod Pass
pub mod Answer
pub mod Face
