pub mod Asking
pub mod Opening
pub mod Surveying
pub mod Typed
pub mod Words
