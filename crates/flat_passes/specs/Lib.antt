pub mod Conditions
pub mod Shifts
pub mod Values
