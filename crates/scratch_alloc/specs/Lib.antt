pub mod Slots
pub mod Plans
pub use Rattle.bank_alloc.specs.Places
pub mod Prelude
