pub mod Buffers
pub mod Made
