-- The definitions that clauses and proofs above cite, passed on from one place. Declares nothing.
unfoldable pub use Rattle.lt_isa.specs.Costs.{cost_of, greatest_cost, operation_cost}
unfoldable pub use Rattle.lt_isa.specs.Events.{observed_of}
unfoldable pub use Rattle.lt_isa.specs.InstructionTable.{cmp_word, comparison_code, comparisons, format_of, instruction_of, kind_named, kind_of, kinds, limits_of, most_bits, most_operand, op_word, opcode_of, operand_numbers, operands_of, operation_code, operations, with_offset}
unfoldable pub use Rattle.lt_isa.specs.Limits.{most_banks, most_block_log, most_blocks, most_instructions, most_latency, most_notes, most_period, most_symbol_words, most_symbols, most_words}
pub use Rattle.lt_isa.specs.Machine.{Bound, EncRead, EncWrite, Halted, Observed, Oram, RamRead, RamWrite, Slot, State, Unbound}
unfoldable pub use Rattle.lt_isa.specs.Machine.{bank_blocks, block_at, read_event, register, set_block, set_register, set_slot, slot, slot_block, slot_words, word_in, write_event}
pub use Rattle.lt_isa.specs.Object.{Parts}
unfoldable pub use Rattle.lt_isa.specs.Object.{bank_kind, block_words, blocks_of, end_word, first_word, is_eram, is_ram, latency_of, no_bank, usual_latencies, usual_profile}
pub use Rattle.lt_isa.specs.Oblivious.{IsOblivious}
unfoldable pub use Rattle.lt_isa.specs.Outputs.{bank_word_numbered, outputs, symbol_word, symbol_words}
pub use Rattle.lt_isa.specs.Ranges.{BankFits, IsInRange, NoteFits, ProfileFits, SymbolFits}
unfoldable pub use Rattle.lt_isa.specs.Ranges.{InstrFits, IsOffset, IsRegister, IsSlot, any_bank, is_slot_claim, next_place, total_length}
pub use Rattle.lt_isa.specs.Runs.{AreFinals, AreTraces}
unfoldable pub use Rattle.lt_isa.specs.Runs.{Halts}
pub use Rattle.lt_isa.specs.Samples.{OneSecret}
unfoldable pub use Rattle.lt_isa.specs.Samples.{one_word}
pub use Rattle.lt_isa.specs.Shape.{IsBlock, IsBound, IsShaped}
unfoldable pub use Rattle.lt_isa.specs.Shape.{SlotFits}
pub use Rattle.lt_isa.specs.Start.{Agree}
unfoldable pub use Rattle.lt_isa.specs.Start.{AgreeOn, FitsObject, covers, final, start_bank, start_banks, start_block, start_state, start_word, trace, want_of, wants_of}
pub use Rattle.lt_isa.specs.Step.{Faults, Goes, StepResult, Stops}
unfoldable pub use Rattle.lt_isa.specs.Step.{block_named, executed, executed_if, loaded, passed, start_if, start_of, step, step_start, target_of, went_on, with_bound, word_named}
pub use Rattle.lt_isa.specs.SymbolPlaces.{FieldsFit, LiesBehind}
unfoldable pub use Rattle.lt_isa.specs.SymbolPlaces.{blocks_in, first_free_word, last_bank, last_end, most_length}
pub use Rattle.lt_isa.specs.Trace.{Here, Reaches, Stamped, Then}
unfoldable pub use Rattle.lt_isa.specs.Trace.{HaltsAt, NeverFaults, final_from, final_within, left_then, seen_at, shown_then, stamped, trace_from, trace_within}
pub use Rattle.lt_isa.specs.Windows.{HasUnitPeriod, IsAccessStart, IsOpen}
unfoldable pub use Rattle.lt_isa.specs.Windows.{access_start, has_unit_period, most_wait}
