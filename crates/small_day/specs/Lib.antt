pub mod Writing
pub mod Hours
pub mod Stopping
