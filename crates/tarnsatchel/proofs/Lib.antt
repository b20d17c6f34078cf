pub mod Asking
pub mod HeadNumbers
pub mod OneAnswer
pub mod Prelude
pub mod Telling
pub mod Writing
