pub mod Slots
pub mod SpreadArrays
pub mod SoundSpread
pub mod KeptPins
pub mod FitsSpread
pub mod OneSpread
