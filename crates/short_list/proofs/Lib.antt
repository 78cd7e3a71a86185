pub mod Removing
pub mod Standing
