pub mod Batch
pub mod Sets
pub mod Made
