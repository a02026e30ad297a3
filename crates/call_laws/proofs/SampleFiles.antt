-- What a sample that is done leaves, and how else it ends.
use Rattle.std.proofs.Common.{◌≡◌, ◌≢◌, ◌⊎◌, inl, inr, Bool, false, ℕ, ◌<◌, List, Option, Some, None, refl, sym, ap, ◌∙◌, subst, arith}
use Rattle.gr_outside.specs.Prelude.{Files}
use Rattle.call_steps.specs.Prelude.{Made, IsMade, sample_target, sample_text, Outside, Gives, Explains, NoWork, NoRoom, Worked, Unread, Long, Judged, Written, NotWritten, Starved, Work, Ending, IsUnread, IsTooLong, IsVerdict, MayEnd, Holds, said_at, files_at}
use Rattle.call_laws.specs.Prelude.{Answers, NoAnswer, AnswersSo, IsDone, IsWrittenFor, on_sampled, sample_work, samples_on}
use Rattle.call_replies.specs.Prelude.{Said}
use Rattle.call_laws.proofs.Behind.{behind-it}
use Rattle.call_laws.proofs.CompiledRuns.{compiled-runs}
use Rattle.call_laws.proofs.CompiledTexts.{compiled-texts}
use Rattle.call_laws.proofs.Promised.{answers-of, status-of}

some-same : {work other : Work} → Some work ≡ Some other → work ≡ other
some-same e = let f = e in cc

none-asked : {X : Type 0} (work : Work) → ◌≡◌ {A = Option Work} None (Some work) → X
none-asked work is = absurd (let f : ◌≡◌ {A = Option Work} None (Some work) = is in cc)

-- ---- how a sample ends

-- its file is written, or its run is spent
halt-ends : (G : List ℕ → Option (List ℕ) → Type 0) (n : ℕ) (output : List ℕ) (made : Made) (halt : Option ℕ)
    (ending : Ending) → MayEnd G (on_sampled n output made halt) ending → IsDone (said_at ending).status
halt-ends G n output made (Some at) ending comes =
    subst (λ (e : Ending). IsDone (said_at e).status) (sym (behind-it G _ ending comes)) (inl refl)
halt-ends G n output made None ending comes =
    subst (λ (e : Ending). IsDone (said_at e).status) (sym (behind-it G _ ending comes)) (inr refl)

sample-ends : (G : List ℕ → Option (List ℕ) → Type 0) (fast : Bool) (n : ℕ) (output : List ℕ) (ending : Ending)
    → MayEnd G (sample_work fast n output) ending → IsDone (said_at ending).status
sample-ends G fast n output ending comes =
    let made = behind-it G (sample_work fast n output) ending comes in
    let run = behind-it G (samples_on n output made.0) ending made.2 in
    halt-ends G n output made.0 run.0 ending run.2

-- the text of a successful status was printed, or printing it failed
put-done : {A B C D : Type 0} {status s : ℕ}
    → IsDone s → ((status ≡ s) × A × B) ⊎ ((status ≡ 4) × C × D) → IsDone status ⊎ (status ≡ 4) ⊎ (status ≡ 5)
put-done done put = elim (status-of put) [ inl is ↦ inl (subst IsDone (sym is) done) | inr is ↦ inr (inl is) ]

put-other : {A B C D : Type 0} {status s : ℕ}
    → (s ≡ 4) ⊎ (s ≡ 5) → ((status ≡ s) × A × B) ⊎ ((status ≡ 4) × C × D) → IsDone status ⊎ (status ≡ 4) ⊎ (status ≡ 5)
put-other kind put = elim (status-of put) [
  | inl is ↦ elim kind [ inl four ↦ inr (inl (is ∙ four)) | inr five ↦ inr (inr (is ∙ five)) ]
  | inr is ↦ inr (inl is)
]

-- the promise on what `sample` writes
pub sampled-of : {asked : Option Work} {before after : Outside} {status : ℕ}
    → Explains before after status asked → (fast : Bool) (n : ℕ) (output : List ℕ)
    → asked ≡ Some (sample_work fast n output) → IsDone status ⊎ (status ≡ 4) ⊎ (status ≡ 5)
sampled-of (NoWork same put) fast n output is = none-asked (sample_work fast n output) is
sampled-of (NoRoom asked' same put) fast n output is = put-other (inr refl) put
sampled-of {before = before} {after = after} (Worked work ending comes calls (Unread name only put)) fast n output is =
    let G = Gives before.shelf.files before.shelf.read_faults after.shelf.read_faults in
    let done =
    sample-ends G fast n output (IsUnread name) (subst (λ (w : Work). MayEnd G w (IsUnread name)) (some-same is) comes) in
    absurd (elim done [ inl e ↦ omega (arith, e) | inr e ↦ omega (arith, e) ])
sampled-of {before = before} {after = after} (Worked work ending comes calls (Long name limit same put)) fast n output is =
    let G = Gives before.shelf.files before.shelf.read_faults after.shelf.read_faults in
    let done =
    sample-ends G fast n output (IsTooLong name limit)
    (subst (λ (w : Work). MayEnd G w (IsTooLong name limit)) (some-same is) comes) in
    absurd (elim done [ inl e ↦ omega (arith, e) | inr e ↦ omega (arith, e) ])
sampled-of {before = before} {after = after} (Worked work ending comes calls (Judged seen verdict same put)) fast n output is =
    let G = Gives before.shelf.files before.shelf.read_faults after.shelf.read_faults in
    put-done (sample-ends G fast n output (IsVerdict seen verdict)
    (subst (λ (w : Work). MayEnd G w (IsVerdict seen verdict)) (some-same is) comes)) put
sampled-of (Worked work ending comes calls (Written name bytes done written put)) fast n output is = put-done (inl refl) put
sampled-of (Worked work ending comes calls (NotWritten name bytes done refused rose calm put)) fast n output is =
    put-other (inl refl) put
sampled-of (Worked work ending comes calls (Starved name bytes done refused rose calm put)) fast n output is =
    put-other (inr refl) put

-- ---- what a sample leaves that is done

made-left : (files : Files) (fast : Bool) (n : ℕ) (output : List ℕ) (made : Made)
    → IsMade fast n made → (halt : Option ℕ) (ending : Ending)
    → MayEnd (Holds files) (on_sampled n output made halt) ending → (said_at ending).status ≡ 0
    → IsWrittenFor false files (files_at ending files) (sample_text n) output (sample_target fast)
made-left files fast n output made is (Some at) ending comes done = record {
  p = made.program;
  bytes = made.bytes;
  spells = is.spells;
  written = ap (λ e. files_at e files) (behind-it (Holds files) _ ending comes);
  compiled = is.compiled;
  runs = λ o spelled.
      compiled-runs made.program (sample_target fast) made.bytes o is.spells.typed is.spells.within is.compiled spelled;
  texts = λ o spelled.
      compiled-texts made.program (sample_target fast) made.bytes o is.spells.typed is.spells.within is.compiled spelled;
  calls = tt;
}
made-left files fast n output made is None ending comes done =
    let ends = ap (λ e. (said_at e).status) (behind-it (Holds files) _ ending comes) in
    absurd (omega (arith, ends, done))

sample-left : (files : Files) (fast : Bool) (n : ℕ) (output : List ℕ) (ending : Ending)
    → MayEnd (Holds files) (sample_work fast n output) ending → (said_at ending).status ≡ 0
    → IsWrittenFor false files (files_at ending files) (sample_text n) output (sample_target fast)
sample-left files fast n output ending comes done =
    let made = behind-it (Holds files) (sample_work fast n output) ending comes in
    let run = behind-it (Holds files) (samples_on n output made.0) ending made.2 in
    made-left files fast n output made.0 made.1 run.0 ending run.2 done

answer-left : (files : Files) (fast : Bool) (n : ℕ) (output : List ℕ) (asked : Option Work) (said : Said) (afterwards : Files)
    → asked ≡ Some (sample_work fast n output) → Answers files asked said afterwards → said.status ≡ 0
    → IsWrittenFor false files afterwards (sample_text n) output (sample_target fast)
answer-left files fast n output asked said afterwards is NoAnswer done = none-asked (sample_work fast n output) is
answer-left files fast n output asked said afterwards is (AnswersSo work ending comes) done =
    sample-left files fast n output ending (subst (λ work. MayEnd (Holds files) work ending) (some-same is) comes) done

-- and on what it says
pub sample-of : {asked : Option Work} {before after : Outside} {status : ℕ}
    → Explains before after status asked → (fast : Bool) (n : ℕ) (output : List ℕ)
    → asked ≡ Some (sample_work fast n output) → status ≡ 0 → (files : Files) → before.shelf.files ≡ Some files
    → (afterwards : Files) × (after.shelf.files ≡ Some afterwards)
    × IsWrittenFor false files afterwards (sample_text n) output (sample_target fast)
sample-of {asked = asked} {status = status} explained fast n output is done files told =
    elim (answers-of explained files told (other 4 (omega arith)) (other 5 (omega arith))) [
      | inl answer ↦ (
        answer.afterwards,
        answer.left,
        answer-left files fast n output asked answer.said answer.afterwards is answer.answer (sym answer.is ∙ done),
      )
      | inr unreadable ↦ absurd (other 3 (omega arith) unreadable.is)
    ]
  where
    other : (k : ℕ) → 0 < k → status ≢ k
    other k above is' = omega (arith, is', done, above)
