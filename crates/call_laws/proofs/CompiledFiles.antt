-- What is written by a compilation that is done.
use Rattle.std.proofs.Common.{◌≡◌, ◌≢◌, inl, inr, Bool, ℕ, ◌<◌, List, Option, Some, None, Result, Ok, Err, sym, ap, ◌∙◌, subst, arith}
use Rattle.std.specs.FinMap.{get}
use Rattle.gr_outside.specs.Prelude.{Files}
use Rattle.call_steps.specs.declared.targets.Target.{Target}
use Rattle.src_tree.specs.Prelude.{Source}
use Rattle.call_replies.specs.declared.source_faults.SourceFault.{SourceFault}
use Rattle.call_replies.specs.Prelude.{Said}
use Rattle.call_steps.specs.Prelude.{SpellsTyped, compile_work, compiles_to, on_compiled, IsRight, WhichCompiled, Work, Ending, MayEnd, Holds, said_at, files_at, Outside, Explains}
use Rattle.call_laws.specs.Prelude.{Answers, NoAnswer, AnswersSo, IsCompiledFile}
use Rattle.call_laws.proofs.Calls.{means-its-calls}
use Rattle.call_laws.proofs.Behind.{behind-it, not-done}
use Rattle.call_laws.proofs.DoneWork.{programmed-on}
use Rattle.call_laws.proofs.CompiledRuns.{compiled-runs}
use Rattle.call_laws.proofs.CompiledTexts.{compiled-texts}
use Rattle.call_laws.proofs.Promised.{answers-of}

module _ (files : Files) (source output : List ℕ) (target : Target) (procs : Bool) (ending : Ending)
    (done : (said_at ending).status ≡ 0) where
  bytes-compiled : (text : List ℕ) (p : Source) → get files source ≡ Some text
      → SpellsTyped procs text p → (answer : Result (List ℕ) SourceFault) → IsRight (WhichCompiled p target) answer
      → MayEnd (Holds files) (on_compiled output answer) ending
      → IsCompiledFile procs files (files_at ending files) source output target
  bytes-compiled text p there spells (Ok bytes) compiled comes = record {
    text = text;
    there = there;
    file = record {
      p = p;
      bytes = bytes;
      spells = spells;
      written = ap (λ e. files_at e files) (behind-it (Holds files) _ ending comes);
      compiled = compiled;
      runs = λ o spelled. compiled-runs p target bytes o spells.typed spells.within compiled spelled;
      texts = λ o spelled. compiled-texts p target bytes o spells.typed spells.within compiled spelled;
      calls = means-its-calls procs text p spells.spells;
    };
  }
  bytes-compiled text p there spells (Err fault) room comes =
      not-done ending _ (behind-it (Holds files) _ ending comes) (inl done)
      (λ e. omega (arith, e)) (λ e. omega (arith, e))

  file-compiled : MayEnd (Holds files) (compile_work source output target procs) ending
      → IsCompiledFile procs files (files_at ending files) source output target
  file-compiled comes =
      let found = programmed-on files ending (inl done) procs source (compiles_to output target) comes in
      let asked = behind-it (Holds files) _ ending found.comes in
      bytes-compiled found.text found.p found.there found.spells asked.0 asked.1 asked.2

answer-compiled : (files : Files) (source output : List ℕ) (target : Target) (procs : Bool) (asked : Option Work)
    (said : Said) (afterwards : Files)
    → asked ≡ Some (compile_work source output target procs) → Answers files asked said afterwards → said.status ≡ 0
    → IsCompiledFile procs files afterwards source output target
answer-compiled files source output target procs asked said afterwards is NoAnswer done =
    absurd (let f : ◌≡◌ {A = Option Work} None (Some (compile_work source output target procs)) = is in cc)
answer-compiled files source output target procs asked said afterwards is (AnswersSo work ending comes) done =
    file-compiled files source output target procs ending done
    (subst (λ work. MayEnd (Holds files) work ending) (some-same is) comes)
  where
    some-same : {work other : Work} → Some work ≡ Some other → work ≡ other
    some-same e = let f = e in cc

-- the promise on what `compile` writes
pub compiled-of : {asked : Option Work} {before after : Outside} {status : ℕ}
    → Explains before after status asked → (source output : List ℕ) (target : Target) (procs : Bool)
    → asked ≡ Some (compile_work source output target procs) → status ≡ 0 → (files : Files)
    → before.shelf.files ≡ Some files
    → (afterwards : Files) × (after.shelf.files ≡ Some afterwards)
    × IsCompiledFile procs files afterwards source output target
compiled-of {asked = asked} {status = status} explained source output target procs is done files told =
    elim (answers-of explained files told (other 4 (omega arith)) (other 5 (omega arith))) [
      | inl answer ↦ (
        answer.afterwards,
        answer.left,
        answer-compiled files source output target procs asked answer.said answer.afterwards is answer.answer
            (sym answer.is ∙ done),
      )
      | inr unreadable ↦ absurd (other 3 (omega arith) unreadable.is)
    ]
  where
    other : (k : ℕ) → 0 < k → status ≢ k
    other k above is' = omega (arith, is', done, above)
