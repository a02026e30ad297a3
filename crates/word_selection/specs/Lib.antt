pub mod SlotSteps
pub mod Selection
pub mod Selected
pub mod Prelude
