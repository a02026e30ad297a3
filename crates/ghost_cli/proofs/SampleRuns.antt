-- From a run on the sample's input to what is counted of it.
use Rattle.std.proofs.Common.{◌≡◌, ℕ, ℤ, List, [], ◌++◌, sym, ap, ap₂, ◌∙◌, subst, arith}
use Rattle.lt_isa.specs.Prelude.{State, Parts, FitsObject, start_state, trace, wants_of, HaltsAt, Stamped, trace_from}
use Rattle.banks.specs.declared.bank.Leaves.{Leaves}
use Rattle.processor.specs.Prelude.{with_paths, NoHalt}
use Rattle.call_steps.specs.Prelude.{Counts, how_many, is_plain, is_encrypted, is_second, sample_cycles, sample_inputs, sample_trace}
use Rattle.ghost_cli.specs.Prelude.{RanSo}
use Rattle.call_steps.specs.declared.count_watch.CountWatch.{CountWatch}
use Rattle.call_steps.proofs.EventCounts.{run-counted}
use Rattle.ghost_cli.proofs.SampleInputs.{sample-fit}

-- the sample's inputs fit its object
pub sample-fits : (o : Parts) (inputs : List (List ℤ)) → inputs ≡ sample_inputs (wants_of o) → FitsObject o inputs
sample-fits o inputs is = subst (FitsObject o) (sym is) (sample-fit (wants_of o))

module _ (o at_hand : Parts) (inputs : List (List ℤ)) (s : State) (given : inputs ≡ sample_inputs (wants_of o))
    (object : at_hand ≡ o) (state : s ≡ start_state o inputs) where
  same-trace : trace_from at_hand s sample_cycles ≡ sample_trace o
  same-trace =
      ap₂ (λ (p : Parts) (t : State). trace_from p t sample_cycles) object state
      ∙ ap (λ (i : List (List ℤ)). trace o i sample_cycles) given

  -- the counts of its run
  pub ran-counted : (at : ℕ) (w : CountWatch) (paths : ℕ → List Leaves)
      → HaltsAt (trace_from at_hand s sample_cycles) at
      → Counts w ([] ++ with_paths (trace_from at_hand s sample_cycles) paths)
      → RanSo o (record { cycles = at; counts = w })
  ran-counted at w paths halts counts =
      let right = run-counted w at_hand s sample_cycles paths (omega arith) counts in
      record {
        halts = subst (λ (events : List Stamped). HaltsAt events at) same-trace halts;
        plain = right.plain ∙ ap (how_many is_plain) same-trace;
        encrypted = right.encrypted ∙ ap (how_many is_encrypted) same-trace;
        second = right.second ∙ ap (how_many is_second) same-trace;
      }

  -- a run that was spent
  pub ran-out : NoHalt (trace_from at_hand s sample_cycles) → NoHalt (sample_trace o)
  ran-out none = subst NoHalt same-trace none
