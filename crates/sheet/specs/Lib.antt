pub mod Drafts
pub mod Reading
pub mod Reports
pub mod Stepping
pub mod Writing
