pub mod Bytes
pub mod Reading
pub mod Records
pub mod Supplies
pub mod Theorems
