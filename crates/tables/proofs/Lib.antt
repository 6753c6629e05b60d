pub mod Fits
pub mod Places
pub mod Pushed
pub mod Changed
pub mod Alike
pub mod Firsts
