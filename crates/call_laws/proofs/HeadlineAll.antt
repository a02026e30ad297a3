-- All of the headline, of a call of the program.
use Rattle.std.proofs.Common.{◌≢◌, inl, inr, ℕ, true, false, List, Option, Some, sym, ap, ◌∙◌, subst}
use Rattle.std.specs.FinMap.{get}
use Rattle.std.proofs.lemmas.Option.{same_Some}
use Rattle.gr_outside.specs.Prelude.{Files, SameBut}
use Rattle.command_words.specs.Prelude.{AreTexts, Text}
use Rattle.call_laws.specs.Prelude.{Fails, Headline, NameOutput, HasHeadline, HeadlineFollows, work_of}
use Rattle.call_steps.specs.Prelude.{Explains, Outside, MayWrite}
use Rattle.call_laws.proofs.HeadlineBuses.{shared}
use Rattle.call_laws.proofs.HeadlineCalls.{Called}
use Rattle.call_laws.proofs.HeadlineOutputs.{changed-is, words-name}
use Rattle.call_laws.proofs.HeadlineMore.{assembled, compiled-fast, compiled-with, disassembled, evaluated-with, run-leaves, sampled, traced-leaves}
use Rattle.call_laws.proofs.HeadlineProgress.{more-progress, progress}
use Rattle.call_laws.proofs.HeadlineVerbs.{accepted, checked, inferred, run, traced}
use Rattle.call_laws.proofs.Promised.{others-of}

only-output : (words : List Text) (files afterwards : Files) (put : List ℕ) (status : ℕ)
    → Called words files afterwards put status → (name : Text) → get afterwards name ≢ get files name
    → NameOutput words name
only-output words files afterwards put status called name changed = elim (others-of called.promises.explained) [
  | inl same ↦
      absurd (changed (ap (λ (fs : Files). get fs name)
      (same_Some afterwards files (sym called.tells.left ∙ same ∙ called.tells.told))))
  | inr only ↦
      let is = changed-is files afterwards only.name name
      (subst (λ (one : Option Files). SameBut only.name one (Some afterwards)) called.tells.told
      (subst (λ (two : Option Files). SameBut only.name called.before.shelf.files two) called.tells.left only.others))
      changed in
      words-name words called.texts only.output.0 name only.output.1
      (subst (λ (n : Text). MayWrite only.output.0 n) (sym is) only.output.2)
]

headline : (words : List Text) (files afterwards : Files) (put : List ℕ) (status : ℕ)
    → (called : Called words files afterwards put status)
    → Headline (Fails called.before called.after) words files afterwards put status
headline words files afterwards put status called = record {
  core = record {
    watched = record {
      checked = checked words files afterwards put status called;
      traced = traced words files afterwards put status called;
      run = run words files afterwards put status called;
      only_output = only-output words files afterwards put status called;
    };
    accepted = accepted words files afterwards put status called;
    compiled = compiled-with words files afterwards put status called false;
    evaluated = evaluated-with words files afterwards put status called false;
    progress = progress words files afterwards put status called;
  };
  more = record {
    compiled_calls = compiled-with words files afterwards put status called true;
    evaluated_calls = evaluated-with words files afterwards put status called true;
    compiled_fast = compiled-fast words files afterwards put status called;
    inferred = inferred words files afterwards put status called;
    assembled = assembled words files afterwards put status called;
    disassembled = disassembled words files afterwards put status called;
    sampled = sampled words files afterwards put status called;
    shared = shared words files afterwards put status called;
    traced_leaves = traced-leaves words files afterwards put status called;
    run_leaves = run-leaves words files afterwards put status called;
    progress = more-progress words files afterwards put status called;
  };
}

pub headline-follows : HeadlineFollows
headline-follows words before after status texts promises files afterwards put tells =
    headline words files afterwards put status
    (record { texts = texts; before = before; after = after; tells = tells; promises = promises })

pub headlined : {words : List Text} {before after : Outside} {status : ℕ} → AreTexts words
    → Explains before after status (work_of words) → HasHeadline words before after status
headlined {words = words} {before = before} {after = after} {status = status} texts explained =
    headline-follows words before after status texts (record { explained = explained })
