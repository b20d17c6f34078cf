pub mod Copies
pub mod Batches
pub mod Sets
pub mod OneMade
