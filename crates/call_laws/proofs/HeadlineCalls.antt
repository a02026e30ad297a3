-- A call that is done: the work that its words ask for, and how that work ended.
use Rattle.std.proofs.Common.{◌≡◌, ◌≢◌, inl, inr, ℕ, ◌<◌, List, ◌∷◌, ◌++◌, Option, Some, None, refl, sym, ap, ◌∙◌, subst, arith}
use Rattle.std.proofs.lemmas.List.{append_cancel_left}
use Rattle.std.proofs.lemmas.Option.{same_Some}
use Rattle.gr_base.specs.Prelude.{Adds}
use Rattle.gr_outside.specs.Prelude.{Files}
use Rattle.command_words.specs.Prelude.{AreTexts, Text, AskExactly}
use Rattle.call_laws.specs.Prelude.{Tells, IsAnswered, IsDone, Promises, work_of, works}
use Rattle.call_steps.specs.Prelude.{Outside, Ending, Holds, MayEnd, Work, files_at, said_at}
use Rattle.call_laws.proofs.OneAnswers.{answer-of}
use Rattle.call_laws.proofs.Promised.{answers-of, no-work}

-- a call of these words, with what it promised
pub record Called (words : List Text) (files afterwards : Files) (put : List ℕ) (status : ℕ) : Type 0 where
  pub texts : AreTexts words
  pub before : Outside
  pub after : Outside
  pub tells : Tells files afterwards put before after
  pub promises : Promises (work_of words) before after status

-- the work ends so, with this text and status
pub record EndsSo (files afterwards : Files) (work : Work) (put : List ℕ) (status : ℕ) : Type 0 where
  pub ending : Ending
  pub comes : MayEnd (Holds files) work ending
  pub is : status ≡ (said_at ending).status
  pub text : put ≡ (said_at ending).text
  pub leaves : afterwards ≡ files_at ending files

some-work : (asked : Option Work) → (asked ≡ None → ⊥) → (work : Work) × (asked ≡ Some work)
some-work None some = absurd (some refl)
some-work (Some work) some = (work, refl)

module _ (words : List Text) (files afterwards : Files) (put : List ℕ) (status : ℕ)
    (called : Called words files afterwards put status) where
  -- words that say so ask for the work
  pub asked-by : (verb : Text) (more : List Text) → words ≡ verb ∷ more → (Asks : List Text → Work → Type 0)
      → AskExactly works verb Asks → (work : Work) → Asks more work → work_of words ≡ Some work
  asked-by verb more are Asks exactly work asks =
      ap work_of are ∙ (exactly more work (subst AreTexts are called.texts).1).1 asks

  added : (text : List ℕ) → Adds called.before.sink.held called.after.sink.held text → put ≡ text
  added text adds =
      append_cancel_left called.tells.held put text
      (subst (λ (one : Option (List ℕ)). Adds one (Some (called.tells.held ++ put)) text) called.tells.sank
      (subst (λ (two : Option (List ℕ)). Adds called.before.sink.held two text) called.tells.gained adds))

  module _ (done : IsDone status) where
    other : (k : ℕ) → 0 < k → k < 10 → status ≢ k
    other k low high is = elim done [ inl e ↦ omega (arith, is, e, low) | inr e ↦ omega (arith, is, e, high) ]

    -- the words after a verb ask for some work
    pub asked : (verb : Text) (more : List Text) → words ≡ verb ∷ more
        → (work : Work) × (work_of (verb ∷ more) ≡ Some work)
    asked verb more are =
        some-work (work_of (verb ∷ more))
        (λ none.
        elim (no-work called.promises.explained (ap work_of are ∙ none)) [
          | inl two ↦ other 2 (omega arith) (omega arith) two
          | inr more ↦ elim more [
            | inl four ↦ other 4 (omega arith) (omega arith) four
            | inr five ↦ other 5 (omega arith) (omega arith) five
          ]
        ])

    answered : IsAnswered (work_of words) called.before called.after status files
    answered =
        elim (answers-of called.promises.explained files called.tells.told (other 4 (omega arith) (omega arith))
        (other 5 (omega arith) (omega arith))) [
          | inl answer ↦ answer
          | inr unreadable ↦ absurd (other 3 (omega arith) (omega arith) unreadable.is)
        ]

    pub ended : (work : Work) → work_of words ≡ Some work → EndsSo files afterwards work put status
    ended work is =
        let answer = answered in
        let of = answer-of files (work_of words) answer.said answer.afterwards answer.answer work is in
        record {
          ending = of.ending;
          comes = of.comes;
          is = answer.is ∙ ap (λ s. s.status) of.is;
          text = added answer.said.text answer.put ∙ ap (λ s. s.text) of.is;
          leaves = same_Some afterwards answer.afterwards (sym called.tells.left ∙ answer.left) ∙ of.leaves;
        }

    -- the same, for the work that words after a verb ask for
    pub ended-by : (verb : Text) (more : List Text) → words ≡ verb ∷ more → (work made : Work)
        → work_of (verb ∷ more) ≡ Some work → work ≡ made → EndsSo files afterwards made put status
    ended-by verb more are work made is same = ended made (ap work_of are ∙ is ∙ ap Some same)

    pub done-ending : (work : Work) (so : EndsSo files afterwards work put status) → IsDone (said_at so.ending).status
    done-ending work so = subst IsDone so.is done
