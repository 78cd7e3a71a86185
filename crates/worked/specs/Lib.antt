pub mod Figures
pub mod Given
