pub mod Answers
pub mod Fixings
pub mod Narrowed
pub mod OneAnswer
pub mod Refusals
pub mod Witness
pub mod Conversions
pub mod ThereAndBack
