-- The parts of a sample: what is made, its run and its figures.
use Rattle.std.proofs.Common.{◌≡◌, Bool, ℕ, ℤ, List, Some, refl, sym, ◌∙◌, subst}
use Rattle.lt_isa.specs.Prelude.{Parts, trace, wants_of, HaltsAt}
use Rattle.object_file.specs.Prelude.{spelling}
use Rattle.src_tree.specs.Prelude.{Store, meaning, Source}
use Rattle.flow_types.specs.Prelude.{declared_wants}
use Rattle.bank_alloc.specs.Prelude.{IsLaidOut}
use Rattle.compiled_objects.specs.Prelude.{by_name}
use Rattle.ghost_cli.specs.declared.sample.CountedRun.{CountedRun}
use Rattle.ghost_cli.specs.declared.sample.SampleFile.{SampleFile}
use Rattle.call_steps.specs.Prelude.{IsCompiledTo, plan_for, Made, IsMade, sample_profile, sample_target, sample_cycles, sample_inputs, sample_store, sample_trace, sample_words, sum_left}
use Rattle.ghost_cli.specs.Prelude.{IsFileOf, SampleIsReady, RanSo}
use Rattle.call_laws.proofs.CompiledRuns.{compiled-runs}
use Rattle.call_laws.proofs.OnTarget.{target-sound}
use Rattle.ghost_cli.proofs.SampleInputs.{sample-fit}
use Rattle.call_laws.proofs.SampleMade.{compiled-object}
use Rattle.code_gen.proofs.WantedInputs.{planned-inputs_wanted}

-- ---- what is made

-- a program and its object that are ready, with the object's bytes
abbrev pub made_of : Source → List ℕ → Parts → Made
made_of p bytes o = record { program = p; bytes = bytes; object = o }

-- what was made is the sample
pub ready-made : (fast : Bool) (n : ℕ) (p : Source) (o : Parts) (bytes : List ℕ)
    → SampleIsReady fast n p o → bytes ≡ spelling o → IsMade fast n (made_of p bytes o)
ready-made fast n p o bytes ready is = record {
  spells = ready.spells;
  compiled = subst (IsCompiledTo p (sample_target fast)) (sym is) ready.compiled;
  object = record { in_range = ready.in_range; spelled = is };
}

-- the program is done where the run of its object halts
pub ready-done : (fast : Bool) (n : ℕ) (p : Source) (o : Parts) (at : ℕ) → SampleIsReady fast n p o → HaltsAt (sample_trace o) at
    → (left : Store) × (meaning p (sample_store p) sample_cycles ≡ Some left)
ready-done fast n p o at ready halts =
    let is = compiled-object p (sample_target fast) o ready.in_range ready.compiled in
    let plan = plan_for fast p sample_profile.block_log in
    let inputs : by_name p o (sample_store p) ≡ sample_inputs (wants_of o) =
    planned-inputs_wanted p sample_profile.block_log plan ready.spells.typed.once ready.spells.within
    (target-sound p (sample_target fast) (spelling o) ready.spells.within ready.compiled) o
    (subst (IsLaidOut p sample_profile.block_log plan.places plan.blocks) is ready.compiled.layout) sample_words in
    let runs =
    compiled-runs p (sample_target fast) (spelling o) o ready.spells.typed ready.spells.within ready.compiled
    (record { in_range = ready.in_range; spelled = refl }) in
    let done = runs.leaves (sample_store p) sample_cycles (sample-fit (declared_wants p.decls))
    (at, subst (λ (i : List (List ℤ)). HaltsAt (trace o i sample_cycles) at) (sym inputs) halts) in
    (done.0, done.1)

-- the figures of a run that halted
pub file-made : (fast : Bool) (n : ℕ) (p : Source) (o : Parts) (bytes : List ℕ) (run : CountedRun) (file : SampleFile)
    → SampleIsReady fast n p o → bytes ≡ spelling o → RanSo o run → file.bytes.items ≡ bytes → file.figures ≡ record {
      items = n;
      cycles = run.cycles;
      ram = run.counts.ram;
      eram = run.counts.eram;
      oram2 = run.counts.oram2;
      sum = sum_left p (meaning p (sample_store p) sample_cycles);
    } → IsFileOf fast n file
file-made fast n p o bytes run file ready is ran spelled figured = record {
  made = made_of p bytes o;
  is = ready-made fast n p o bytes ready is;
  spelled = spelled;
  at = run.cycles;
  halts = ran.halts;
  figured = figured ∙ (λ k. record {
    items = n;
    cycles = run.cycles;
    ram = ran.plain k;
    eram = ran.encrypted k;
    oram2 = ran.second k;
    sum = sum_left p (meaning p (sample_store p) sample_cycles);
  });
}

-- ---- the variables of the counts
