pub mod Refusals
pub mod Wants
pub mod Walk
pub mod Surveys
pub mod Prelude
