pub mod Cases
pub mod PadCases
pub mod PositionCases
