pub mod Spread
pub mod SpreadFits
pub mod Prelude
