pub mod Timed
pub mod Checks
pub mod Outcomes
pub mod Slots
pub mod Promise
pub mod Ready
pub mod Holding
pub mod Listed
