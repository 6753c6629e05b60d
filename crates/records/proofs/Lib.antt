pub mod SlotTold
pub mod OneSlot
pub mod SoundPosted
pub mod SoundAfter
pub mod Standing
pub mod Deemed
