pub mod Zeros
pub mod Marking
pub mod Operands
pub mod Standing
pub mod Made
pub mod Passing
pub mod Projecting
