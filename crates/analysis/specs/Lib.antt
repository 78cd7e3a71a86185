pub mod Example
pub mod History
pub mod Legal
pub mod Theorems
pub mod Verdict
pub mod Watching
