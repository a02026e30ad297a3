-- How a work may end: its statuses, the names in its endings, and its endings if the contents of files are known.
use Rattle.std.proofs.Common.{◌≡◌, ◌⊎◌, inl, inr, ℕ, ◌≤◌, true, false, List, length, Option, Some, None, refl, arith}
use Rattle.std.specs.FinMap.{get}
use Rattle.gr_base.specs.Prelude.{Rose}
use Rattle.gr_outside.specs.Prelude.{Files}
use Rattle.call_replies.specs.declared.replies.Verdict.{Verdict}
use Rattle.call_replies.specs.declared.replies.Verdict.TheVariants.{Accepted, Traced, Malformed, Refused, BadSource, BadInput, Spent, BadAssembly, OffBus, Shared, NoNotes}
use Rattle.call_replies.specs.Prelude.{verdict_status}
use Rattle.call_steps.specs.Prelude.{Question, Answer, IsRight, Work, Reads, Asks, Ending, IsUnread, IsTooLong, IsVerdict, IsWritten, MayEnd, Ended, Wrote, Missing, TooLong, Found, Answered, Holds, MayRead, ReadsIt, ReadsLater, ReadsThen, MayWrite, WritesIt, WritesLater, WritesThen, Gives}

-- a verdict has no status of usage, files or memory
pub plain : (verdict : Verdict) → (verdict_status verdict ≡ 0) ⊎ (6 ≤ verdict_status verdict)
plain Accepted = inl refl
plain (Traced true) = inl refl
plain (Traced false) = inr (omega arith)
plain (Malformed fault) = inr (omega arith)
plain (Refused pc reason) = inr (omega arith)
plain (BadSource fault) = inr (omega arith)
plain (BadInput fault) = inr (omega arith)
plain (Spent most) = inr (omega arith)
plain (BadAssembly fault) = inr (omega arith)
plain (OffBus core cause) = inr (omega arith)
plain (Shared true) = inl refl
plain (Shared false) = inr (omega arith)
plain (NoNotes why) = inr (omega arith)

-- what an ending says of the files that its work names
abbrev pub Names : (List ℕ → Option (List ℕ) → Type 0) → Work → Ending → Type 0
Names G work (IsUnread name) = MayRead work name × G name None
Names G work (IsTooLong name limit) = Unit {0}
Names G work (IsVerdict seen verdict) = Unit {0}
Names G work (IsWritten name bytes done) = MayWrite work name

later : (G : List ℕ → Option (List ℕ) → Type 0) (name : List ℕ) (limit : ℕ) (next : List ℕ → Work) (bytes : List ℕ)
    (ending : Ending) → Names G (next bytes) ending → Names G (Reads name limit next) ending
later G name limit next bytes (IsUnread other) is = (ReadsLater name other limit next bytes is.0, is.1)
later G name limit next bytes (IsTooLong other most) is = tt
later G name limit next bytes (IsVerdict seen verdict) is = tt
later G name limit next bytes (IsWritten other more done) is = WritesLater name other limit next bytes is

then : (G : List ℕ → Option (List ℕ) → Type 0) (question : Question) (next : Answer question → Work)
    (answer : Answer question) (ending : Ending) → Names G (next answer) ending → Names G (Asks question next) ending
then G question next answer (IsUnread name) is = (ReadsThen question next answer name is.0, is.1)
then G question next answer (IsTooLong name most) is = tt
then G question next answer (IsVerdict seen verdict) is = tt
then G question next answer (IsWritten name bytes done) is = WritesThen question next answer name is

-- an ending names only files of the work
pub names : (G : List ℕ → Option (List ℕ) → Type 0) (work : Work) (ending : Ending)
    → MayEnd G work ending → Names G work ending
names G work ending (Ended seen verdict) = tt
names G work ending (Wrote name bytes done) = WritesIt name bytes done
names G work ending (Missing name limit next none) = (ReadsIt name limit next, none)
names G work ending (TooLong name limit next bytes gives long) = tt
names G work ending (Found name limit next bytes ending' gives short comes) =
    later G name limit next bytes ending' (names G (next bytes) ending' comes)
names G work ending (Answered question next answer ending' right comes) =
    then G question next answer ending' (names G (next answer) ending' comes)

-- if the contents of files are known, a work ends as it does with these files, or an existing file couldn't be read
pub data ToldTo (files : Files) (before now : ℕ) (work : Work) (ending : Ending) : Type 0 where
  Same : MayEnd (Holds files) work ending → ToldTo files before now work ending
  Unreadable : (name bytes : List ℕ)
      → ending ≡ IsUnread name → get files name ≡ Some bytes → Rose before now → ToldTo files before now work ending

found-so : (files : Files) (before now : ℕ) (name : List ℕ) (limit : ℕ) (next : List ℕ → Work) (bytes : List ℕ)
    (ending : Ending) → Holds files name (Some bytes) → length bytes ≤ limit
    → ToldTo files before now (next bytes) ending → ToldTo files before now (Reads name limit next) ending
found-so files before now name limit next bytes ending gives short (Same comes) =
    Same (Found name limit next bytes ending gives short comes)
found-so files before now name limit next bytes ending gives short (Unreadable other all is there rose) =
    Unreadable other all is there rose

answered-so : (files : Files) (before now : ℕ) (question : Question) (next : Answer question → Work)
    (answer : Answer question) (ending : Ending) → IsRight question answer
    → ToldTo files before now (next answer) ending → ToldTo files before now (Asks question next) ending
answered-so files before now question next answer ending right (Same comes) =
    Same (Answered question next answer ending right comes)
answered-so files before now question next answer ending right (Unreadable other all is there rose) =
    Unreadable other all is there rose

missing-so : (files : Files) (before now : ℕ) (name : List ℕ) (limit : ℕ) (next : List ℕ → Work)
    (file : Option (List ℕ)) → get files name ≡ file → Rose before now
    → ToldTo files before now (Reads name limit next) (IsUnread name)
missing-so files before now name limit next None is rose = Same (Missing name limit next is)
missing-so files before now name limit next (Some bytes) is rose = Unreadable name bytes refl is rose

-- the ending of a work if the contents of files are known
pub told : (files : Files) (before now : ℕ) (work : Work) (ending : Ending)
    → MayEnd (Gives (Some files) before now) work ending → ToldTo files before now work ending
told files before now work ending (Ended seen verdict) = Same (Ended seen verdict)
told files before now work ending (Wrote name bytes done) = Same (Wrote name bytes done)
told files before now work ending (Missing name limit next none) = elim none [
  | inl missing ↦ Same (Missing name limit next missing)
  | inr rose ↦ missing-so files before now name limit next (get files name) refl rose
]
told files before now work ending (TooLong name limit next bytes gives long) =
    Same (TooLong name limit next bytes gives long)
told files before now work ending (Found name limit next bytes ending' gives short comes) =
    found-so files before now name limit next bytes ending' gives short
    (told files before now (next bytes) ending' comes)
told files before now work ending (Answered question next answer ending' right comes) =
    answered-so files before now question next answer ending' right (told files before now (next answer) ending' comes)
