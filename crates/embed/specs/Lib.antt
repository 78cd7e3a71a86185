pub mod Border
pub mod Promises
