pub mod Ranges
pub mod Tags
pub mod Pools
pub mod Hours
pub mod Deemed
