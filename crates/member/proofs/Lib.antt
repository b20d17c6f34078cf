pub mod Restricted
pub mod Cells
pub mod Passing
