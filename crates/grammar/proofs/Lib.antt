pub mod Decoding
pub mod Faults
pub mod Going
pub mod History
pub mod OneReading
pub mod Shapes
pub mod Spelling
pub mod Writing
