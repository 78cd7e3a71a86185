pub mod Eight
pub mod Ended
