pub mod RowNumbers
pub mod SoundSets
pub mod Leading
pub mod Filling
