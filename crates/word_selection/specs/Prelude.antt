-- The definitions that clauses and proofs above cite, passed on from one place. Declares nothing.
pub use Rattle.word_selection.specs.Selected.{AreBound, IsBound, ReadsWord, WritesWord}
unfoldable pub use Rattle.word_selection.specs.Selection.{choice_steps, choice_shows, choices_shows, choices_steps, difference_steps, exchange_shows, exchange_steps, exchanges_shows, exchanges_steps, first_steps, left_register, mask_register, mask_shows, mask_steps, next_mask_steps, read_shows, read_steps, selected_read, selected_write, write_shows, write_steps, written_from}
pub use Rattle.word_selection.specs.SlotSteps.{Combine, Compute, Constant, Contents, Read, SlotStep, Write}
unfoldable pub use Rattle.word_selection.specs.SlotSteps.{IsOutside, IsReading, MayWrite, OperandFits, StepFits, after, after_step, code_of, instruction_of, labels_after, slot_at, step_show, steps_show, trees_after, with_register, with_word, with_word_at, word_of}
