pub mod Whole
pub mod NothingGiven
pub mod Unposted
pub mod Equal
pub mod FigureLaws
pub mod Slots
pub mod Records
pub mod Undeemed
