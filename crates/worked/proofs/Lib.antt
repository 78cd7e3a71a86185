pub mod Computed
pub mod Judging
pub mod Running
pub mod Trying
