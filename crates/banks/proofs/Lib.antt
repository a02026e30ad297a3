pub mod Blocks
pub mod FrontWords
pub mod AccessRuns
pub mod ShownAccesses
pub mod InBank
pub mod AccessBounds
pub mod ResumedAccesses
