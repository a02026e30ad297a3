-- There is a sample for each number of items.
use Rattle.std.proofs.Common.{Bool, false, ℕ, List, Result, Ok, Err, arith}
use Rattle.gr_base.specs.Prelude.{Within}
use Rattle.lt_isa.specs.Prelude.{ProfileFits}
use Rattle.call_replies.specs.declared.source_faults.SourceFault.{SourceFault}
use Rattle.call_steps.specs.Prelude.{IsCompiled, IsMade, Made, sample_profile, sample_target, sample_text, SpellsTyped}
use Rattle.call_laws.specs.Prelude.{sample_program}
use Rattle.call_laws.proofs.SampleMade.{no-room_fault}
use Rattle.call_laws.proofs.SampleProgram.{sample_typed, sample_within}
use Rattle.call_laws.proofs.SampleText.{sample_spells}
use Rattle.call_laws.proofs.SomeObjects.{compiled-some, program-fits}

profile-fits : ProfileFits sample_profile
profile-fits = record {
  block_log = (omega arith, omega arith);
  alu = (omega arith, omega arith);
  mul = (omega arith, omega arith);
  word = (omega arith, omega arith);
  taken = (omega arith, omega arith);
  period = (omega arith, omega arith);
  opens = omega arith;
  closes = (omega arith, omega arith);
}

pub made-some : (fast : Bool) (n : ℕ) → Within 1 65536 n → (made : Made) × IsMade fast n made
made-some fast n few =
    let p = sample_program n in
    let spells = sample_spells n (omega (arith, few.1)) in
    let typed : SpellsTyped false (sample_text n) p =
    record { spells = spells; typed = sample_typed n; within = sample_within n few } in
    let found =
    compiled-some p (sample_target fast) profile-fits typed.typed typed.within
    (program-fits false (sample_text n) p spells) in
    by typed found.0 found.1
  where
    by : SpellsTyped false (sample_text n) (sample_program n) → (a : Result (List ℕ) SourceFault)
        → IsCompiled (sample_program n) (sample_target fast) a → (made : Made) × IsMade fast n made
    by typed (Ok bytes) compiled = (
      record { program = sample_program n; bytes = bytes; object = compiled.o },
      record { spells = typed; compiled = compiled; object = compiled.spells },
    )
    by typed (Err shown) why = absurd (no-room_fault fast n few.1 why.0 shown why.1 why.2)
