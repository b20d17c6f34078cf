pub mod Bounds
pub mod Text
pub mod Put
pub mod PutAt
