pub mod Walked
pub mod Capped
pub mod KnownNames
pub mod Judged
pub mod Distinct
pub mod Surveyed
