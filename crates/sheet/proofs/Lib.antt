pub mod Drafting
pub mod Mapped
pub mod Reader
pub mod Room
pub mod Spelled
pub mod Taking
pub mod Written
