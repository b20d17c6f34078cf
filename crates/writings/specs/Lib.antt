pub mod Tidy
pub mod ReadText
pub mod ReadImage
pub mod Calls
pub mod Cases
