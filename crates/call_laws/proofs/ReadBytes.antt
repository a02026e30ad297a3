-- The headline over the bytes that a call read and wrote.
use Rattle.std.proofs.Common.{◌≡◌, ◌≢◌, inl, inr, ℕ, List, [], ◌++◌, Option, Some, refl, sym, ap, ap₂, ◌∙◌, subst, arith}
use Rattle.std.proofs.lemmas.List.{append_cancel_left}
use Rattle.std.proofs.lemmas.Option.{same_Some}
use Rattle.gr_base.specs.Prelude.{Adds}
use Rattle.gr_outside.specs.Prelude.{Files, ShelfCall, ShelfSeen, SinkSeen}
use Rattle.command_words.specs.Prelude.{AreTexts, Text}
use Rattle.call_replies.specs.Prelude.{Said}
use Rattle.call_steps.specs.Prelude.{Explains, NoRoom, NoWork, Worked, Follows, Outside, PutsSaid, Gives, Holds, Judged, Long, NotWritten, Starved, Unread, Written, LeftBy, Work, Ending, IsVerdict, IsWritten, MayEnd, Ended, Wrote, Missing, TooLong, Found, Answered, files_at, said_at}
use Rattle.call_laws.specs.Prelude.{AreRead, Gains, HasReadBytes, IsDone, ReadBytes, left_by, work_of}
use Rattle.call_laws.proofs.HeadlineAll.{headlined}
use Rattle.call_laws.proofs.LoggedCalls.{from-calls}

-- ---- a text that was printed whole

record Whole (before after : SinkSeen) (said : Said) (status : ℕ) : Type 0 where
  pub is : status ≡ said.status
  pub adds : Adds before.held after.held said.text
  pub calm : after.faults ≡ before.faults

not-four : {status : ℕ} → IsDone status → status ≢ 4
not-four done four = elim done [ inl e ↦ omega (arith, e, four) | inr e ↦ omega (arith, e, four) ]

not-five : {status : ℕ} → IsDone status → status ≢ 5
not-five done five = elim done [ inl e ↦ omega (arith, e, five) | inr e ↦ omega (arith, e, five) ]

whole : {before after : SinkSeen} {said : Said} {status : ℕ} → PutsSaid before after said status → IsDone status
    → Whole before after said status
whole put done = elim put [
  | inl said ↦ record { is = said.0; adds = said.1; calm = said.2 }
  | inr failed ↦ absurd (not-four done failed.0)
]

-- the text of a call that is done has no other status
other-text : (before after : SinkSeen) (said : Said) (status : ℕ) → PutsSaid before after said status
    → IsDone status → said.status ≢ 0 → said.status ≢ 10 → ⊥
other-text before after said status put done zero ten = go done (whole put done)
  where
    go : IsDone status → Whole before after said status → ⊥
    go (inl e) is = zero (sym is.is ∙ e)
    go (inr e) is = ten (sym is.is ∙ e)

-- ---- files that are known

-- a work ends the same way if the contents of the files are known
held-gives : (files : Files) (before now : ℕ) (work : Work) (ending : Ending) → MayEnd (Holds files) work ending
    → MayEnd (Gives (Some files) before now) work ending
held-gives files before now work ending (Ended seen verdict) = Ended seen verdict
held-gives files before now work ending (Wrote name bytes done) = Wrote name bytes done
held-gives files before now work ending (Missing name limit next none) = Missing name limit next (inl none)
held-gives files before now work ending (TooLong name limit next bytes gives long) =
    TooLong name limit next bytes gives long
held-gives files before now work ending (Found name limit next bytes ending' gives short comes) =
    Found name limit next bytes ending' gives short (held-gives files before now (next bytes) ending' comes)
held-gives files before now work ending (Answered question next answer ending' right comes) =
    Answered question next answer ending' right (held-gives files before now (next answer) ending' comes)

-- the same outside with these files and this text
abbrev told : Outside → Files → List ℕ → Outside
told it files text = record {
  shelf = record it.shelf { files = Some files };
  log = it.log;
  sink = record { held = Some text; faults = it.sink.faults };
}

module _ (before after : Outside) (status : ℕ) (done : IsDone status) (calls : List ShelfCall)
    (gains : Gains calls before after) (files : Files) (read : AreRead files calls) where
  -- the ending that the calls come to
  pub record Comes (work : Work) (ending : Ending) : Type 0 where
    pub comes : MayEnd (Holds files) work ending
    pub left : left_by calls files ≡ files_at ending files

  comes-to-end : (work : Work) (ending : Ending) → Follows work (Some ending) before.log after.log
      → Comes work ending
  comes-to-end work ending follows =
      let from = from-calls work (Some ending) before.log after.log follows gains.keeps (gains.held ++ calls) gains.now in
      let same : gains.held ≡ from.held = same_Some gains.held from.held (sym gains.was ∙ from.was) in
      let more : calls ≡ from.more =
      append_cancel_left gains.held calls from.more
      (from.are ∙ ap (λ (h : List ShelfCall). h ++ from.more) (sym same)) in
      let by = from.ends files (subst (AreRead files) more read) in
      record { comes = by.0; left = ap (λ (cs : List ShelfCall). left_by cs files) more ∙ by.1 }

  -- what was printed, and why, with these files
  pub record Printed (asked : Option Work) : Type 0 where
    pub put : List ℕ
    pub adds : Adds before.sink.held after.sink.held put
    pub explained : Explains (told before files []) (told after (left_by calls files) put) status asked

  whole-told : (said : Said) → Whole before.sink after.sink said status
      → PutsSaid (told before files []).sink (told after (left_by calls files) said.text).sink said status
  whole-told said is = inl (is.is, refl, is.calm)

  worked : (work : Work) (ending : Ending) → Follows work (Some ending) before.log after.log
      → (said : Said) → Whole before.sink after.sink said status
      → (Comes work ending → LeftBy (told before files []) (told after (left_by calls files) said.text) status ending)
      → Printed (Some work)
  worked work ending follows said is left =
      let comes = comes-to-end work ending follows in
      record {
        put = said.text;
        adds = is.adds;
        explained =
            Worked work ending
            (held-gives files before.shelf.read_faults after.shelf.read_faults work ending comes.comes)
            (λ four five. follows) (left comes);
      }

  pub printed : (asked : Option Work) → Explains before after status asked → Printed asked
  printed asked (NoWork same put) = absurd (other-text _ _ _ _ put done (λ e. omega (arith, e)) (λ e. omega (arith, e)))
  printed asked (NoRoom asked' only put) = absurd (other-text _ _ _ _ put done (λ e. omega (arith, e)) (λ e. omega (arith, e)))
  printed asked (Worked work ending comes follows (Unread name left put)) =
      absurd (other-text _ _ _ _ put done (λ e. omega (arith, e)) (λ e. omega (arith, e)))
  printed asked (Worked work ending comes follows (Long name limit same put)) =
      absurd (other-text _ _ _ _ put done (λ e. omega (arith, e)) (λ e. omega (arith, e)))
  printed asked (Worked work ending comes follows (Judged seen verdict same put)) =
      let is = whole put done in
      worked work (IsVerdict seen verdict) (follows (not-four done) (not-five done))
      (said_at (IsVerdict seen verdict)) is
      (λ at. Judged seen verdict
      (ap₂ (λ (s : ShelfSeen) (fs : Files). record s { files = Some fs }) same at.left)
      (whole-told (said_at (IsVerdict seen verdict)) is))
  printed asked (Worked work ending comes follows (Written name bytes finished written put)) =
      let is = whole put done in
      worked work (IsWritten name bytes finished) (follows (not-four done) (not-five done))
      (said_at (IsWritten name bytes finished)) is
      (λ at. Written name bytes finished
      (ap₂ (λ (s : ShelfSeen) (fs : Files). record s { files = Some fs }) written at.left)
      (whole-told (said_at (IsWritten name bytes finished)) is))
  printed asked (Worked work ending comes follows (NotWritten name bytes finished refused rose calm put)) =
      absurd (other-text _ _ _ _ put done (λ e. omega (arith, e)) (λ e. omega (arith, e)))
  printed asked (Worked work ending comes follows (Starved name bytes finished refused rose calm put)) =
      absurd (other-text _ _ _ _ put done (λ e. omega (arith, e)) (λ e. omega (arith, e)))

pub has-read-bytes : {words : List Text} {before after : Outside} {status : ℕ} → AreTexts words
    → Explains before after status (work_of words) → HasReadBytes words before after status
has-read-bytes {words = words} {before = before} {after = after} {status = status} texts explained done calls gains files
    read =
    let it = printed before after status done calls gains files read (work_of words) explained in (
      it.put,
      it.adds,
      headlined texts it.explained files (left_by calls files) it.put
          (record { told = refl; left = refl; held = []; sank = refl; gained = refl }),
    )

pub read-bytes : ReadBytes
read-bytes words before after status texts promises = has-read-bytes texts promises.explained
