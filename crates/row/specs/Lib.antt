pub mod Listed
pub mod Found
pub mod Face
