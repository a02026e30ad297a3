pub mod Connected
pub mod Listed
