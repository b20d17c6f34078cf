pub mod Telling
pub mod Handing
