pub mod Ranges
pub mod Working
pub mod Rounding
pub mod Dispatch
pub mod Imbalance
pub mod Surcharge
