-- A run through one window of cycles, and what is left to be shown after it.
use Rattle.std.proofs.Common.{◌≡◌, ℕ, ◌≤◌, Bool, true, ◌&&◌, nat_lt, List, [], ◌++◌, map, Ok, sym, ap, ◌∙◌, ⊎_elim, arith, lt-ltb, le-ltb}
use Rattle.std.proofs.lemmas.Bool.{cases_lt}
use Rattle.std.proofs.lemmas.List.{append-nil}
use Rattle.lt_isa.specs.Prelude.{Parts, State, IsInRange, IsShaped, trace_from, final_from}
use Rattle.lt_isa.proofs.Ends.{trace_resumed, trace_halted}
use Rattle.lt_isa.proofs.Runs.{trace_from-past}
use Rattle.processor.specs.declared.ends.End.{End}
use Rattle.processor.specs.Prelude.{EndsAs, is_spent}
use Rattle.run_tools.specs.Prelude.{stamped_of, ahead, left_to_read}
use Rattle.run_tools.specs.declared.trace_reader.TraceReader.{TraceReader}
use Rattle.run_tools.specs.declared.recorder.Recorded.{Recorded}
use Rattle.processor.specs.declared.ends.End.TheVariants as end

module _ (o : Parts) (range : IsInRange o) (s : State) (shaped : IsShaped o s) (n m : ℕ) (le : n ≤ m) where
  -- what the window shows and what is ahead of it is what was ahead before
  pub window-shows : (how : End) → EndsAs (trace_from o s n) how
      → trace_from o s n ++ ahead (is_spent (Ok how) && nat_lt n m) o (final_from o s n) m ≡ trace_from o s m
  window-shows end.Spent quiet =
      ⊎_elim
      (λ less. ap (λ b. trace_from o s n ++ ahead b o (final_from o s n) m) (lt-ltb n m less)
      ∙ sym (trace_resumed o range s shaped n m le quiet))
      (λ past. ap (λ b. trace_from o s n ++ ahead b o (final_from o s n) m) (le-ltb n m past)
      ∙ append-nil (trace_from o s n) ∙ ap (λ k. trace_from o s k) (omega (arith, le, past)))
      (cases_lt n m)
  window-shows (end.Halted at) halts =
      append-nil (trace_from o s n) ∙ sym (trace_halted o range s shaped n m at le halts.0)

  -- the same, where no event waited before, and those of the window wait now
  pub window-read : (how : End) → EndsAs (trace_from o s n) how → (before now : List Recorded) → before ≡ []
      → map stamped_of now ≡ trace_from o s n → (more : Bool) → more ≡ true
      → map stamped_of now ++ ahead (is_spent (Ok how) && nat_lt n m) o (final_from o s n) m
      ≡ map stamped_of before ++ ahead more o s m
  window-read how ends before now empty recorded more runs =
      ap (λ l. l ++ ahead (is_spent (Ok how) && nat_lt n m) o (final_from o s n) m) recorded
      ∙ window-shows how ends
      ∙ sym (ap (λ l. map stamped_of l ++ ahead more o s m) empty ∙ ap (λ b. ahead b o s m) runs)

-- a reader of a run that hasn't begun has the whole trace to read
pub left-at-start : (r : TraceReader) (o : Parts) (s : State) (live : Bool) (cycles : ℕ) → r.waiting.items ≡ []
    → r.reached ≡ 0 → r.cycles ≡ cycles → live ≡ true → left_to_read r o s live ≡ trace_from o s cycles
left-at-start r o s live cycles empty reached most runs =
    ap (λ l. map stamped_of l ++ ahead (live && nat_lt r.reached r.cycles) o s r.cycles) empty
    ∙ ap (λ b. ahead (b && nat_lt r.reached r.cycles) o s r.cycles) runs
    ∙ ap (λ k. ahead (nat_lt k r.cycles) o s r.cycles) reached
    ∙ ap (λ k. ahead (nat_lt 0 k) o s k) most
    ∙ ⊎_elim (λ less. ap (λ b. ahead b o s cycles) (lt-ltb 0 cycles less))
    (λ past. ap (λ b. ahead b o s cycles) (le-ltb 0 cycles past)
    ∙ sym (trace_from-past o s cycles (omega (arith, past)))) (cases_lt 0 cycles)
