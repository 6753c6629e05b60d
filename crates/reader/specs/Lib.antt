pub mod Carrying
pub mod Inputs
pub mod Printing
pub mod Feeding
pub mod Promised
pub mod Working
