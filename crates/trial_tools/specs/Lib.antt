pub mod Front
pub mod Plan
pub mod Watched
