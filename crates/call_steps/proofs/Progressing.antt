-- How a work continues, step by step, and how it stops.
use Rattle.std.proofs.Common.{◌≡◌, ◌⊎◌, inl, inr, ℕ, ◌+◌, ◌<◌, ◌≤◌, List, length, take, Option, Some, None, MatchOption, IfSome, refl, sym, ap, ◌∙◌, subst, arith}
use Rattle.std.specs.Option.{option_map}
use Rattle.std.specs.FinMap.{get}
use Rattle.std.proofs.lemmas.List.{length-take, take_all}
use Rattle.gr_base.specs.Prelude.{Rose}
use Rattle.gr_outside.specs.Prelude.{Files, ShelfSeen, SinkSeen, front_of, logged, read_of}
use Rattle.call_replies.specs.Prelude.{Said, no_memory, unread, too_long}
use Rattle.call_steps.specs.Prelude.{Question, Answer, IsRight, Work, Reads, Asks, Ending, IsUnread, IsTooLong, IsVerdict, IsWritten, Missing, TooLong, Found, Answered, said_at, Stage, outside_at, ReadFails, ReadStarves, ReadsMore, Gives, PutsSaid, OnlyReads, LeavesShelf, LeavesUnread, LeftBy, Unread, Long, Judged, Explains, NoRoom, Worked, HasLeft, Stops, NoRoomLeft, StopsAt}

abbrev pub reads-of : ShelfSeen → ℕ
reads-of s = s.read_faults

abbrev last-unread : ShelfSeen → Option (List ℕ)
last-unread s = s.unread

-- a shelf that stays was only read
pub same-only : {before after : ShelfSeen} → after ≡ before → OnlyReads before after
same-only {before} {after} same = (
  same
      ∙ (ap (λ n. record before { read_faults = n }) (sym (ap reads-of same))
      ∙ ap (λ n. record before { read_faults = after.read_faults; unread = n }) (sym (ap last-unread same))),
  omega (arith, ap reads-of same),
)

-- ---- a read

-- a front that is no longer than the limit is the whole file
front-whole : (found : Option (List ℕ)) (n : ℕ) (bytes : List ℕ)
    → option_map (take (n + 1)) found ≡ Some bytes → length bytes ≤ n → found ≡ Some bytes
front-whole None n bytes is short = absurd (let f : ◌≡◌ {A = Option (List ℕ)} None (Some bytes) = is in cc)
front-whole (Some file) n bytes is short =
    let same : take (n + 1) file ≡ bytes = cc in
    ap Some (sym (take_all (n + 1) file (omega (arith, length-take (n + 1) file, ap length same))) ∙ same)

-- a front that is longer than the limit is one of a longer file
front-long : (found : Option (List ℕ)) (n : ℕ) (bytes : List ℕ) → option_map (take (n + 1)) found ≡ Some bytes
    → n < length bytes → (file : List ℕ) × (found ≡ Some file) × (n < length file)
front-long None n bytes is long = absurd (let f : ◌≡◌ {A = Option (List ℕ)} None (Some bytes) = is in cc)
front-long (Some file) n bytes is long =
    let same : take (n + 1) file ≡ bytes = cc in
    (file, refl, omega (arith, length-take (n + 1) file, ap length same))

gives-whole : (files : Option Files) (before now : ℕ) (name : List ℕ) (n : ℕ) (bytes : List ℕ)
    → IfSome files (λ all. front_of all name (n + 1) ≡ Some bytes) → length bytes ≤ n
    → Gives files before now name (Some bytes)
gives-whole None before now name n bytes read short = tt
gives-whole (Some all) before now name n bytes read short = front-whole (get all name) n bytes read short

-- a file within the limit continues the work
pub read-leads : (before : ShelfSeen) (name : List ℕ) (n : ℕ) (bytes : List ℕ)
    → IfSome before.files (λ all. front_of all name (n + 1) ≡ Some bytes) → length bytes ≤ n
    → (next : List ℕ → Work) → HasLeft before (Reads name n next) (next bytes)
read-leads before name n bytes read short next now ending comes =
    Found name n next bytes ending (gives-whole before.files before.read_faults now name n bytes read short) short comes

gives-long : (files : Option Files) (before now : ℕ) (name : List ℕ) (n : ℕ) (bytes : List ℕ)
    → IfSome files (λ all. front_of all name (n + 1) ≡ Some bytes) → n < length bytes
    → (file : List ℕ) × Gives files before now name (Some file) × (n < length file)
gives-long None before now name n bytes read long = (bytes, tt, long)
gives-long (Some all) before now name n bytes read long = front-long (get all name) n bytes read long

-- a longer file stops
pub read-long : (before after : Stage) (name : List ℕ) (n : ℕ) (bytes : List ℕ)
    → IfSome before.seen.files (λ all. front_of all name (n + 1) ≡ Some bytes) → n < length bytes
    → after.seen ≡ before.seen → after.log ≡ logged (read_of name (Some bytes)) before.log
    → (next : List ℕ → Work) → Stops before after (Reads name n next) (too_long name n)
read-long before after name n bytes read long same noted next =
    let found = gives-long before.seen.files before.seen.read_faults after.seen.read_faults name n bytes read long in
    StopsAt (IsTooLong name n) (TooLong name n next found.0 found.1 found.2)
    (ReadsMore name n next bytes before.log after.log noted long) same refl

gives-none : (files : Option Files) (before now : ℕ) (name : List ℕ)
    → MatchOption files (Rose before now) (λ all. get all name ≡ None) → Gives files before now name None
gives-none None before now name rose = rose
gives-none (Some all) before now name missing = inl missing

gives-failed : (files : Option Files) (before now : ℕ) (name : List ℕ)
    → Rose before now → Gives files before now name None
gives-failed None before now name rose = rose
gives-failed (Some all) before now name rose = inr rose

-- so does one that is missing
pub read-missing : (before after : Stage) (name : List ℕ) (n : ℕ)
    → MatchOption before.seen.files (Rose before.seen.read_faults after.seen.read_faults) (λ all. get all name ≡ None)
    → LeavesUnread name before.seen after.seen → after.log ≡ logged (read_of name None) before.log
    → (next : List ℕ → Work) → Stops before after (Reads name n next) (unread name)
read-missing before after name n missing left noted next =
    StopsAt (IsUnread name)
    (Missing name n next (gives-none before.seen.files before.seen.read_faults after.seen.read_faults name missing))
    (ReadFails name n next before.log after.log noted) left refl

-- and one whose read fails
pub read-failed : (before after : Stage) (name : List ℕ) (n : ℕ)
    → Rose before.seen.read_faults after.seen.read_faults → LeavesUnread name before.seen after.seen
    → after.log ≡ logged (read_of name None) before.log
    → (next : List ℕ → Work) → Stops before after (Reads name n next) (unread name)
read-failed before after name n rose left noted next =
    StopsAt (IsUnread name)
    (Missing name n next (gives-failed before.seen.files before.seen.read_faults after.seen.read_faults name rose))
    (ReadFails name n next before.log after.log noted) left refl

-- and one that memory is missing for
pub read-starved : (before after : Stage) (name : List ℕ) (n : ℕ) → after.seen ≡ before.seen
    → after.log ≡ logged (read_of name None) before.log
    → (next : List ℕ → Work) → Stops before after (Reads name n next) no_memory
read-starved before after name n same noted next =
    NoRoomLeft (same-only same) refl (ReadStarves name n next before.log after.log noted)

-- ---- a question

-- a question with its right answer continues the work
pub leads-on : (before : ShelfSeen) (work : Work) (question : Question) (next : Answer question → Work)
    (answer : Answer question) → HasLeft before work (Asks question next) → IsRight question answer
    → HasLeft before work (next answer)
leads-on before work question next answer leads right now ending comes =
    leads now ending (Answered question next answer ending right comes)

-- two steps in sequence are a step
pub leads-later : (before between : ShelfSeen) (work rest last : Work)
    → between ≡ before → HasLeft before work rest → HasLeft between rest last → HasLeft before work last
leads-later before between work rest last same leads on now ending comes =
    leads now ending (subst (λ (b : ShelfSeen). HasLeft b rest last) same on now ending comes)

-- ---- the printed text

-- the text that is printed for a work that stops explains the call
pub stopped : (before after : Stage) (sink now : SinkSeen) (status : ℕ) (work : Work) (said : Said)
    → Stops before after work said → PutsSaid sink now said status ⊎ PutsSaid sink now no_memory status
    → Explains (outside_at before sink) (outside_at after now) status (Some work)
stopped before after sink now status work said (NoRoomLeft only is calls) put = elim put [
  | inl done ↦ NoRoom (Some work) only (subst (λ s. PutsSaid sink now s status) is done)
  | inr done ↦ NoRoom (Some work) only done
]
stopped before after sink now status work said (StopsAt ending comes calls left is) put = elim put [
  | inl done ↦
      Worked work ending comes (λ four five. calls)
      (left-so ending left (subst (λ s. PutsSaid sink now s status) is done))
  | inr done ↦ NoRoom (Some work) (only ending left) done
]
  where
    left-so : (ending : Ending) → LeavesShelf ending before.seen after.seen
        → PutsSaid sink now (said_at ending) status
        → LeftBy (outside_at before sink) (outside_at after now) status ending
    left-so (IsUnread name) left done = Unread name left done
    left-so (IsTooLong name limit) left done = Long name limit left done
    left-so (IsVerdict seen verdict) left done = Judged seen verdict left done
    left-so (IsWritten name bytes done) left put = absurd left

    only : (ending : Ending) → LeavesShelf ending before.seen after.seen → OnlyReads before.seen after.seen
    only (IsUnread name) left = left.only
    only (IsTooLong name limit) left = same-only left
    only (IsVerdict seen verdict) left = same-only left
    only (IsWritten name bytes done) left = absurd left
