-- The definitions that clauses and proofs above cite, passed on from one place. Declares nothing.
unfoldable pub use Rattle.strength_reduction.specs.Reduced.{is_word, low_bits, mask_steps, power_of, product_steps, quotient_steps, remainder_steps, rounding_steps, set_bits, steps_by_bits, steps_by_number, sum_register, sum_steps, term_steps, zero_steps}
pub use Rattle.strength_reduction.specs.Steps.{Compute, Constant, Replaces, Step}
unfoldable pub use Rattle.strength_reduction.specs.Steps.{IsQuick, StepFits, code_of, instruction_of, left_by, numbered, reads_known, replaced, secrets_after, words_after}
