-- The definitions that clauses and proofs above cite, passed on from one place. Declares nothing.
pub use Rattle.held_registers.specs.Held.{IsSoundHeld}
unfoldable pub use Rattle.held_registers.specs.Held.{held_at, held_scalars, is_number, is_scalar, label_held, public_zero, register_of_number, register_of_scalar, scalars_behind, secret_zero, takes_register, with_number, with_scalar, word_held, zeros}
