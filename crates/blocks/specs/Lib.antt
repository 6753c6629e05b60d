pub mod Rules
pub mod Names
pub mod Headings
pub mod Values
pub mod Working
pub mod Orders
pub mod Lines
