pub mod Cuts
pub mod Numerals
pub mod ReadBack
