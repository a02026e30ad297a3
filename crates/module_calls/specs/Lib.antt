pub mod Tails
pub mod Fine
pub mod Rules
pub mod Inlining
pub mod FirstAssignments
pub mod Promise
