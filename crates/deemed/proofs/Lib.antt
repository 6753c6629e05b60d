pub mod NoTag
pub mod Limits
pub mod Arrays
pub mod Intervals
pub mod SharedHour
