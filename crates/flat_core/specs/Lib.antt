pub mod Core
pub mod Promise
