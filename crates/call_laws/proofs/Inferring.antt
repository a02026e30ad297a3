-- The file that a successful `infer` writes.
use Rattle.std.proofs.Common.{◌≡◌, ◌≢◌, inl, inr, Bool, cond, ℕ, ◌<◌, List, Option, Some, None, Result, Ok, Err, refl, sym, ap, ◌∙◌, subst, arith}
use Rattle.std.proofs.lemmas.Cmp.{eq_by_cmp_equiv}
use Rattle.std.specs.Cmp.Lexicographic.{nat_list_cmp_total}
use Rattle.std.specs.FinMap.{get, get-insert}
use Rattle.gr_outside.specs.Prelude.{Files, with_file}
use Rattle.lt_isa.specs.Prelude.{Parts}
use Rattle.lt_checker.proofs.Soundness.{accepted_is_oblivious}
use Rattle.path_oram.proofs.AlikeLeaves.{leaves_alike}
use Rattle.object_file.specs.Prelude.{spelling}
use Rattle.note_infer.specs.declared.faults.InferError.{InferError}
use Rattle.call_replies.specs.Prelude.{Said}
use Rattle.call_steps.specs.Prelude.{GetsNotes, SpellsObject, IsRight, WhatIsInferred, Work, Ending, MayEnd, Holds, said_at, files_at, Outside, Explains, EndsWorkWith, SaysNotes}
use Rattle.call_laws.specs.Prelude.{infer_work, infers_to, on_inferred, Answers, NoAnswer, AnswersSo, IsInferredFile, IsSafe}
use Rattle.call_laws.proofs.Behind.{behind-it, not-done}
use Rattle.call_laws.proofs.DoneWork.{spelled-on}
use Rattle.call_laws.proofs.Promised.{answers-of}
use Rattle.call_replies.specs.declared.replies.Verdict.TheVariants.{NoNotes}
use Rattle.note_infer.specs.Prelude.{IsWhyNot, NoNotesWouldDo}
use Rattle.note_infer.specs.declared.faults.InferError.TheVariants as notes

-- ---- what is written

-- a file that was written is there
pub written-there : (name bytes : List ℕ) (files : Files) → get (with_file name bytes files) name ≡ Some bytes
written-there name bytes files =
    get-insert nat_list_cmp_total files name bytes name
    ∙ ap (λ (same : Bool). cond same (Some bytes) (get files name)) ((eq_by_cmp_equiv nat_list_cmp_total).refl name)

-- an object that got its notes is safe if it was written
abbrev written-safe : (files afterwards : Files) (output : List ℕ) (o found : Parts) → GetsNotes o found
    → afterwards ≡ with_file output (spelling found) files → IsSafe afterwards output
written-safe files afterwards output o found gets written =
    let oblivious = accepted_is_oblivious found gets.in_range gets.inferred.accepts in
    record {
      bytes = spelling found;
      o = found;
      there = subst (λ (fs : Files). get fs output ≡ Some (spelling found)) (sym written)
          (written-there output (spelling found) files);
      spells = record { in_range = gets.in_range; spelled = refl };
      accepted = gets.inferred.accepts;
      oblivious = oblivious;
      leaves = leaves_alike found gets.in_range oblivious;
    }

module _ (files : Files) (object output : List ℕ) (ending : Ending) (done : (said_at ending).status ≡ 0) where
  notes-written : (bytes : List ℕ) (o : Parts) → get files object ≡ Some bytes
      → SpellsObject bytes o → (answer : Result Parts InferError) → IsRight (WhatIsInferred o) answer
      → MayEnd (Holds files) (on_inferred output answer) ending
      → IsInferredFile files (files_at ending files) object output
  notes-written bytes o there spells (Ok found) gets comes =
      let written = ap (λ e. files_at e files) (behind-it (Holds files) _ ending comes) in
      record {
        bytes = bytes;
        o = o;
        there = there;
        spells = spells;
        found = found;
        notes = gets;
        written = written;
        safe = written-safe files (files_at ending files) output o found gets written;
        same = refl;
      }
  notes-written bytes o there spells (Err why) none comes =
      not-done ending _ (behind-it (Holds files) _ ending comes) (inl done)
      (λ e. omega (arith, e)) (λ e. omega (arith, e))

  file-inferred : MayEnd (Holds files) (infer_work object output) ending
      → IsInferredFile files (files_at ending files) object output
  file-inferred comes =
      let found = spelled-on files ending (inl done) object (infers_to output) comes in
      let asked = behind-it (Holds files) _ ending found.comes in
      notes-written found.bytes found.o found.there found.spells asked.0 asked.1 asked.2

answer-inferred : (files : Files) (object output : List ℕ) (asked : Option Work) (said : Said) (afterwards : Files)
    → asked ≡ Some (infer_work object output) → Answers files asked said afterwards → said.status ≡ 0
    → IsInferredFile files afterwards object output
answer-inferred files object output asked said afterwards is NoAnswer done =
    absurd (let f : ◌≡◌ {A = Option Work} None (Some (infer_work object output)) = is in cc)
answer-inferred files object output asked said afterwards is (AnswersSo work ending comes) done =
    file-inferred files object output ending done
    (subst (λ work. MayEnd (Holds files) work ending) (some-same is) comes)
  where
    some-same : {work other : Work} → Some work ≡ Some other → work ≡ other
    some-same e = let f = e in cc

-- the promise on what `infer` writes
pub inferred-of : {asked : Option Work} {before after : Outside} {status : ℕ}
    → Explains before after status asked → (object output : List ℕ)
    → asked ≡ Some (infer_work object output) → status ≡ 0 → (files : Files) → before.shelf.files ≡ Some files
    → (afterwards : Files) × (after.shelf.files ≡ Some afterwards) × IsInferredFile files afterwards object output
inferred-of {asked = asked} {status = status} explained object output is done files told =
    elim (answers-of explained files told (other 4 (omega arith)) (other 5 (omega arith))) [
      | inl answer ↦ (
        answer.afterwards,
        answer.left,
        answer-inferred files object output asked answer.said answer.afterwards is answer.answer
            (sym answer.is ∙ done),
      )
      | inr unreadable ↦ absurd (other 3 (omega arith) unreadable.is)
    ]
  where
    other : (k : ℕ) → 0 < k → status ≢ k
    other k above is' = omega (arith, is', done, above)

-- the line of an object that gets no notes says why
pub no-notes : (o : Parts) (why : InferError) (said : Said) → IsWhyNot o why → NoNotesWouldDo o why
    → SaysNotes why said → (output : List ℕ) → EndsWorkWith (WhatIsInferred o) (on_inferred output) said
no-notes o notes.Memory said cause suffices says output = inl says
no-notes o why said cause suffices says output =
    inr (Err why, NoNotes why, record { told = λ e. cc; cause = cause; suffices = suffices }, refl, says)
