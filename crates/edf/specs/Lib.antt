pub mod Jobs
pub mod Load
pub mod Schedule
pub mod Edf
pub mod Lateness
pub mod Run
pub mod Theorems
