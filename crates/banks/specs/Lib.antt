pub mod Banks
pub mod Blocks
pub mod Accesses
pub mod ObliviousEvents
pub mod Prelude
