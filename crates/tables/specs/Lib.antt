pub mod Refusals
pub mod Equality
pub mod Ranges
pub mod View
pub mod Tables
pub mod Keyed
pub mod Lends
