pub mod Sound
pub mod Copies
pub mod HeldWrites
pub mod Found
