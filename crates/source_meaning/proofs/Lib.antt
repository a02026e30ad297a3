pub mod Keeping
pub mod Joined
pub mod PlacedMeaning
pub mod Turns
