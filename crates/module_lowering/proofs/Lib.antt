pub mod Scopes
pub mod Shapes
pub mod InlinedScopes
pub mod Lowered
mod Example
