pub mod Positions
pub mod Reading
pub mod OneRecord
pub mod Keys
pub mod RuleLists
