pub mod Putting
pub mod SoundRows
pub mod LinesText
pub mod Opening
pub mod Telling
pub mod Turning
pub mod Answering
