-- The definitions that clauses and proofs above cite, passed on from one place. Declares nothing.
pub use Rattle.code_gen.specs.Emitted.{ClosesChoice, ClosesLoop, Puts}
unfoldable pub use Rattle.code_gen.specs.Emitted.{EmitsBlock, EmitsStatement, before_second, noted_behind, padding_of, second_notes}
pub use Rattle.code_gen.specs.Follows.{Finishes, Follows, Lasts}
pub use Rattle.code_gen.specs.Made.{IsMadeOf}
unfoldable pub use Rattle.code_gen.specs.Made.{banks_from}
unfoldable pub use Rattle.code_gen.specs.Programs.{access, beginning, each_slot, ending, load_code, pin_store, program_code, program_notes, register_code, slot_code}
pub use Rattle.code_gen.specs.Statements.{block_code, block_notes, statement_code, statement_notes}
unfoldable pub use Rattle.code_gen.specs.Statements.{Padding, block_ends_noted, choice_by, choice_code, choice_notes, ends_noted, guard_note, head_note, head_unless, is_public, loop_code, notes_by, opposite, places_over, second_code}
