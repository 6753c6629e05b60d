pub mod Columns
pub mod Names
pub mod Heads
pub mod Unders
pub mod Readings
