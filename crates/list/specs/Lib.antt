pub mod Bounds
pub mod Text
pub mod Handing
pub mod Page
pub mod Listing
