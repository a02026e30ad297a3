-- What every call promises follows from what explains it.
use Rattle.std.proofs.Common.{◌≡◌, ◌≢◌, ◌⊎◌, inl, inr, ℕ, ◌≤◌, Bool, List, Option, Some, None, is_some, refl, sym, ap, ◌∙◌, subst, arith}
use Rattle.std.specs.Prelude.{MatchOption}
use Rattle.std.specs.Option.{option_map}
use Rattle.std.specs.FinMap.{get, remove}
use Rattle.std.proofs.lemmas.Bool.{cases_eq}
use Rattle.gr_base.specs.Prelude.{Rose, Adds, AddsLess}
use Rattle.gr_outside.specs.Prelude.{Files, ShelfSeen, SameBut, with_file, SinkSeen}
use Rattle.call_replies.specs.declared.replies.Verdict.{Verdict}
use Rattle.call_replies.specs.Prelude.{Said, usage, unread, verdict_status}
use Rattle.call_steps.specs.Prelude.{Work, Ending, IsUnread, IsTooLong, IsVerdict, IsWritten, MayEnd, Holds, said_at, files_at, Outside, Gives, PutsSaid, OnlyReads, Unread, Long, Judged, Written, NotWritten, Starved, Explains, NoWork, NoRoom, Worked}
use Rattle.call_laws.specs.Prelude.{Answers, NoAnswer, AnswersSo, IsAnswered, IsUnreadable, ReadFailed, WriteFailed, NoMemory, IsCalm, OnlyOutput, StandsAtFour, OfAnswer, UnreadCut, NoMemoryCut, IsDone}
use Rattle.gr_outside.proofs.WrittenFiles.{remove_with_file}
use Rattle.call_steps.proofs.Endings.{plain, names, ToldTo, Same, Unreadable, told}
use Rattle.call_steps.proofs.Progressing.{reads-of, same-only}

-- ---- a text that is printed

-- if the sink takes the text, the status is that of the text, which was added whole
pub record Whole (before after : SinkSeen) (said : Said) (status : ℕ) : Type 0 where
  pub is : status ≡ said.status
  pub put : Adds before.held after.held said.text
  pub calm : after.faults ≡ before.faults

pub whole : {before after : SinkSeen} {said : Said} {status : ℕ}
    → PutsSaid before after said status → status ≢ 4 → Whole before after said status
whole put other = elim put [
  | inl done ↦ record { is = done.0; put = done.1; calm = done.2 }
  | inr short ↦ absurd (other short.0)
]

-- a status is that of the text, or 4
pub status-of : {A B C D : Type 0} {status s : ℕ}
    → ((status ≡ s) × A × B) ⊎ ((status ≡ 4) × C × D) → (status ≡ s) ⊎ (status ≡ 4)
status-of put = elim put [ inl done ↦ inl done.0 | inr short ↦ inr short.0 ]

-- a text whose status is neither 4 nor the exit status can't have been printed
pub not-put : {X A B C D : Type 0} {status s : ℕ}
    → ((status ≡ s) × A × B) ⊎ ((status ≡ 4) × C × D) → status ≢ s → status ≢ 4 → X
not-put put other four = absurd (elim (status-of put) [ inl is ↦ other is | inr is ↦ four is ])

-- at status 4 a text of another status was cut
pub record Cut (before after : SinkSeen) (said : Said) : Type 0 where
  pub failed : Rose before.faults after.faults
  pub less : AddsLess before.held after.held said.text

-- the files if a line couldn't be printed
pub cut : {before after : SinkSeen} {said : Said} {status : ℕ}
    → PutsSaid before after said status → status ≡ 4 → said.status ≢ 4 → Cut before after said
cut put four other = elim put [
  | inl done ↦ absurd (other (sym done.0 ∙ four))
  | inr short ↦ record { failed = short.1; less = short.2 }
]

-- statuses of verdicts
pub verdict-other : (verdict : Verdict) (k : ℕ) → 2 ≤ k → k ≤ 5 → verdict_status verdict ≢ k
verdict-other verdict k low high is = elim (plain verdict) [
  | inl zero ↦ omega (arith, low, is, zero)
  | inr more ↦ omega (arith, high, is, more)
]

-- ---- the causes of each status

-- each promise by itself: of usage
pub usage-of : {asked : Option Work} {before after : Outside} {status : ℕ}
    → Explains before after status asked → status ≡ 2 → asked ≡ None
usage-of (NoWork same put) two = refl
usage-of (NoRoom asked' same put) two = not-put put (λ is. omega (arith, two, is)) (λ is. omega (arith, two, is))
usage-of (Worked work ending comes calls (Unread name left put)) two =
    not-put put (λ is. omega (arith, two, is)) (λ is. omega (arith, two, is))
usage-of (Worked work ending comes calls (Long name limit same put)) two =
    not-put put (λ is. omega (arith, two, is)) (λ is. omega (arith, two, is))
usage-of (Worked work ending comes calls (Judged seen verdict same put)) two =
    not-put put (λ is. verdict-other verdict 2 (omega arith) (omega arith) (sym is ∙ two))
    (λ is. omega (arith, two, is))
usage-of (Worked work ending comes calls (Written name bytes done written put)) two =
    not-put put (λ is. omega (arith, two, is)) (λ is. omega (arith, two, is))
usage-of (Worked work ending comes calls (NotWritten name bytes done refused rose calm put)) two =
    not-put put (λ is. omega (arith, two, is)) (λ is. omega (arith, two, is))
usage-of (Worked work ending comes calls (Starved name bytes done refused rose calm put)) two =
    not-put put (λ is. omega (arith, two, is)) (λ is. omega (arith, two, is))

-- of words that ask for no work
pub no-work : {asked : Option Work} {before after : Outside} {status : ℕ}
    → Explains before after status asked → asked ≡ None → (status ≡ 2) ⊎ (status ≡ 4) ⊎ (status ≡ 5)
no-work (NoWork same put) none = elim (status-of put) [ inl is ↦ inl is | inr is ↦ inr (inl is) ]
no-work (NoRoom asked' same put) none = elim (status-of put) [ inl is ↦ inr (inr is) | inr is ↦ inr (inl is) ]
no-work (Worked work ending comes calls left) none = absurd (let f : ◌≡◌ {A = Option Work} (Some work) None = none in cc)

-- of a read that failed
pub unread-of : {asked : Option Work} {before after : Outside} {status : ℕ}
    → Explains before after status asked → status ≡ 3 → ReadFailed asked before after
unread-of (NoWork same put) three = not-put put (λ is. omega (arith, three, is)) (λ is. omega (arith, three, is))
unread-of (NoRoom asked' same put) three = not-put put (λ is. omega (arith, three, is)) (λ is. omega (arith, three, is))
unread-of {before = before} {after = after} (Worked work ending comes calls (Unread name left put)) three =
    let named = names _ work (IsUnread name) comes in
    record {
      name = name;
      read = (work, refl, named.0);
      put = (whole put (λ is. omega (arith, three, is))).put;
      left = left;
      cause = missing before.shelf.files before.shelf.read_faults after.shelf.read_faults name named.1;
    }
  where
    missing : (files : Option Files) (reads now : ℕ) (name : List ℕ)
        → Gives files reads now name None → MatchOption files ⊥ (λ told. get told name ≡ None) ⊎ Rose reads now
    missing None reads now name rose = inr rose
    missing (Some files) reads now name none = none
unread-of (Worked work ending comes calls (Long name limit same put)) three =
    not-put put (λ is. omega (arith, three, is)) (λ is. omega (arith, three, is))
unread-of (Worked work ending comes calls (Judged seen verdict same put)) three =
    not-put put (λ is. verdict-other verdict 3 (omega arith) (omega arith) (sym is ∙ three))
    (λ is. omega (arith, three, is))
unread-of (Worked work ending comes calls (Written name bytes done written put)) three =
    not-put put (λ is. omega (arith, three, is)) (λ is. omega (arith, three, is))
unread-of (Worked work ending comes calls (NotWritten name bytes done refused rose calm put)) three =
    not-put put (λ is. omega (arith, three, is)) (λ is. omega (arith, three, is))
unread-of (Worked work ending comes calls (Starved name bytes done refused rose calm put)) three =
    not-put put (λ is. omega (arith, three, is)) (λ is. omega (arith, three, is))

-- about a write or a print that failed
pub failed-of : {asked : Option Work} {before after : Outside} {status : ℕ} → Explains before after status asked
    → status ≡ 4 → Rose before.sink.faults after.sink.faults ⊎ WriteFailed asked before after
failed-of (NoWork same put) four = inl (cut put four (λ is. omega (arith, is))).failed
failed-of (NoRoom asked' same put) four = inl (cut put four (λ is. omega (arith, is))).failed
failed-of (Worked work ending comes calls (Unread name left put)) four = inl (cut put four (λ is. omega (arith, is))).failed
failed-of (Worked work ending comes calls (Long name limit same put)) four =
    inl (cut put four (λ is. omega (arith, is))).failed
failed-of (Worked work ending comes calls (Judged seen verdict same put)) four =
    inl (cut put four (verdict-other verdict 4 (omega arith) (omega arith))).failed
failed-of (Worked work ending comes calls (Written name bytes done written put)) four =
    inl (cut put four (λ is. omega (arith, is))).failed
failed-of (Worked work ending comes calls (NotWritten name bytes done refused rose calm put)) four = elim put [
  | inl done' ↦ inr (record {
    name = name;
    output = (work, refl, names _ work (IsWritten name bytes done) comes);
    failed = rose;
    put = done'.1;
  })
  | inr short ↦ inl short.1
]
failed-of (Worked work ending comes calls (Starved name bytes done refused rose calm put)) four =
    inl (cut put four (λ is. omega (arith, is))).failed

-- of running out of memory
pub no-room-of : {asked : Option Work} {before after : Outside} {status : ℕ}
    → Explains before after status asked → status ≡ 5 → NoMemory asked before after
no-room-of (NoWork same put) five = not-put put (λ is. omega (arith, five, is)) (λ is. omega (arith, five, is))
no-room-of (NoRoom asked' same put) five =
    record { put = (whole put (λ is. omega (arith, five, is))).put; cause = inl same }
no-room-of (Worked work ending comes calls (Unread name left put)) five =
    not-put put (λ is. omega (arith, five, is)) (λ is. omega (arith, five, is))
no-room-of (Worked work ending comes calls (Long name limit same put)) five =
    not-put put (λ is. omega (arith, five, is)) (λ is. omega (arith, five, is))
no-room-of (Worked work ending comes calls (Judged seen verdict same put)) five =
    not-put put (λ is. verdict-other verdict 5 (omega arith) (omega arith) (sym is ∙ five))
    (λ is. omega (arith, five, is))
no-room-of (Worked work ending comes calls (Written name bytes done written put)) five =
    not-put put (λ is. omega (arith, five, is)) (λ is. omega (arith, five, is))
no-room-of (Worked work ending comes calls (NotWritten name bytes done refused rose calm put)) five =
    not-put put (λ is. omega (arith, five, is)) (λ is. omega (arith, five, is))
no-room-of (Worked work ending comes calls (Starved name bytes done refused rose calm put)) five = record {
  put = (whole put (λ is. omega (arith, five, is))).put;
  cause = inr (record {
    name = name;
    output = (work, refl, names _ work (IsWritten name bytes done) comes);
    starved = rose;
    left = refused;
  });
}

-- ---- what doesn't change

abbrev writes-of : ShelfSeen → ℕ
writes-of s = s.write_faults

-- of counts at other statuses
pub calm-of : {asked : Option Work} {before after : Outside} {status : ℕ}
    → Explains before after status asked → status ≢ 4 → IsCalm before after
calm-of (NoWork same put) other = record { writes = ap writes-of same; puts = (whole put other).calm }
calm-of (NoRoom asked' same put) other = record { writes = ap writes-of same.0; puts = (whole put other).calm }
calm-of (Worked work ending comes calls (Unread name left put)) other =
    record { writes = ap writes-of left.only.0; puts = (whole put other).calm }
calm-of (Worked work ending comes calls (Long name limit same put)) other =
    record { writes = ap writes-of same; puts = (whole put other).calm }
calm-of (Worked work ending comes calls (Judged seen verdict same put)) other =
    record { writes = ap writes-of same; puts = (whole put other).calm }
calm-of (Worked work ending comes calls (Written name bytes done written put)) other =
    record { writes = ap writes-of written; puts = (whole put other).calm }
calm-of (Worked work ending comes calls (NotWritten name bytes done refused rose calm put)) other = not-put put other other
calm-of (Worked work ending comes calls (Starved name bytes done refused rose calm put)) other =
    record { writes = calm; puts = (whole put other).calm }

-- of the count of reads
pub reads-calm : {asked : Option Work} {before after : Outside} {status : ℕ} → Explains before after status asked
    → status ≢ 3 → status ≢ 4 → status ≢ 5 → after.shelf.read_faults ≡ before.shelf.read_faults
reads-calm (NoWork same put) three four five = ap reads-of same
reads-calm (NoRoom asked' same put) three four five = not-put put five four
reads-calm (Worked work ending comes calls (Unread name left put)) three four five = not-put put three four
reads-calm (Worked work ending comes calls (Long name limit same put)) three four five = ap reads-of same
reads-calm (Worked work ending comes calls (Judged seen verdict same put)) three four five = ap reads-of same
reads-calm (Worked work ending comes calls (Written name bytes done written put)) three four five = ap reads-of written
reads-calm (Worked work ending comes calls (NotWritten name bytes done refused rose calm put)) three four five = refused.reads
reads-calm (Worked work ending comes calls (Starved name bytes done refused rose calm put)) three four five = refused.reads

abbrev starved-count : ShelfSeen → ℕ
starved-count s = s.starved

-- of the count of writes that wanted memory
pub starved-calm : {asked : Option Work} {before after : Outside} {status : ℕ}
    → Explains before after status asked → status ≢ 5 → status ≢ 4 → after.shelf.starved ≡ before.shelf.starved
starved-calm (NoWork same put) five four = ap starved-count same
starved-calm (NoRoom asked' same put) five four = ap starved-count same.0
starved-calm (Worked work ending comes calls (Unread name left put)) five four = ap starved-count left.only.0
starved-calm (Worked work ending comes calls (Long name limit same put)) five four = ap starved-count same
starved-calm (Worked work ending comes calls (Judged seen verdict same put)) five four = ap starved-count same
starved-calm (Worked work ending comes calls (Written name bytes done written put)) five four = ap starved-count written
starved-calm (Worked work ending comes calls (NotWritten name bytes done refused rose calm put)) five four = calm
starved-calm (Worked work ending comes calls (Starved name bytes done refused rose calm put)) five four =
    not-put put five four

abbrev files-of : ShelfSeen → Option Files
files-of s = s.files

-- ---- what changes

said-tells : (name bytes : List ℕ) (files : Option Files)
    → is_some (option_map (with_file name bytes) files) ≡ is_some files
said-tells name bytes None = refl
said-tells name bytes (Some files) = refl

-- of the files that stay
pub others-of : {asked : Option Work} {before after : Outside} {status : ℕ}
    → Explains before after status asked → (after.shelf.files ≡ before.shelf.files) ⊎ OnlyOutput asked before after
others-of (NoWork same put) = inl (ap files-of same)
others-of (NoRoom asked' same put) = inl (ap files-of same.0)
others-of (Worked work ending comes calls (Unread name left put)) = inl (ap files-of left.only.0)
others-of (Worked work ending comes calls (Long name limit same put)) = inl (ap files-of same)
others-of (Worked work ending comes calls (Judged seen verdict same put)) = inl (ap files-of same)
others-of {before = before} (Worked work ending comes calls (Written name bytes done written put)) = inr (record {
  name = name;
  output = (work, refl, names _ work (IsWritten name bytes done) comes);
  others = spared name bytes before.shelf.files _ (ap files-of written);
})
  where
    spared : (name bytes : List ℕ) (files left : Option Files)
        → left ≡ option_map (with_file name bytes) files → SameBut name files left
    spared name bytes None left is = ap (option_map (λ f. remove f name)) is
    spared name bytes (Some files) left is =
        ap (option_map (λ f. remove f name)) is ∙ ap Some (remove_with_file name bytes files)
others-of (Worked work ending comes calls (NotWritten name bytes done refused rose calm put)) =
    inr (record {
      name = name;
      output = (work, refl, names _ work (IsWritten name bytes done) comes);
      others = refused.others;
    })
others-of (Worked work ending comes calls (Starved name bytes done refused rose calm put)) =
    inr (record {
      name = name;
      output = (work, refl, names _ work (IsWritten name bytes done) comes);
      others = refused.others;
    })

-- of the files at a refusal
pub last-of : {asked : Option Work} {before after : Outside} {status : ℕ}
    → Explains before after status asked → status ≢ 0 → status ≢ 4 → status ≢ 5 → OnlyReads before.shelf after.shelf
last-of (NoWork same put) zero four five = same-only same
last-of (NoRoom asked' same put) zero four five = same
last-of (Worked work ending comes calls (Unread name left put)) zero four five = left.only
last-of (Worked work ending comes calls (Long name limit same put)) zero four five = same-only same
last-of (Worked work ending comes calls (Judged seen verdict same put)) zero four five = same-only same
last-of (Worked work ending comes calls (Written name bytes done written put)) zero four five = not-put put zero four
last-of (Worked work ending comes calls (NotWritten name bytes done refused rose calm put)) zero four five =
    not-put put four four
last-of (Worked work ending comes calls (Starved name bytes done refused rose calm put)) zero four five =
    not-put put five four

abbrev told-at : ShelfSeen → Bool
told-at s = is_some s.files

-- about whether the contents of files are known
pub tells-of : {asked : Option Work} {before after : Outside} {status : ℕ}
    → Explains before after status asked → is_some after.shelf.files ≡ is_some before.shelf.files
tells-of (NoWork same put) = ap told-at same
tells-of (NoRoom asked' same put) = ap told-at same.0
tells-of (Worked work ending comes calls (Unread name left put)) = ap told-at left.only.0
tells-of (Worked work ending comes calls (Long name limit same put)) = ap told-at same
tells-of (Worked work ending comes calls (Judged seen verdict same put)) = ap told-at same
tells-of {before = before} (Worked work ending comes calls (Written name bytes done written put)) =
    ap told-at written ∙ said-tells name bytes before.shelf.files
tells-of (Worked work ending comes calls (NotWritten name bytes done refused rose calm put)) = refused.tells
tells-of (Worked work ending comes calls (Starved name bytes done refused rose calm put)) = refused.tells

-- ---- if the contents of files are known

told-of : (files : Files) (seen : Option Files) (before now : ℕ) (work : Work) (ending : Ending)
    → seen ≡ Some files → MayEnd (Gives seen before now) work ending → ToldTo files before now work ending
told-of files seen before now work ending is comes =
    told files before now work ending (subst (λ t. MayEnd (Gives t before now) work ending) is comes)

abbrev name-of : Ending → Option (List ℕ)
name-of (IsUnread name) = Some name
name-of other = None

-- an ending that isn't that of an unread file comes from the told files
answered : {files : Files} {before now : ℕ} {work : Work} {ending : Ending}
    → name-of ending ≡ None → ToldTo files before now work ending → MayEnd (Holds files) work ending
answered other (Same comes) = comes
answered other (Unreadable name bytes is there rose) =
    absurd (let f : ◌≡◌ {A = Option (List ℕ)} (Some name) None = sym (ap name-of is) ∙ other in cc)

-- so it is an answer, and if its text was printed whole, it is the answer
answers-so : (files : Files) (before after : Outside) (work : Work) (ending : Ending)
    → name-of ending ≡ None → before.shelf.files ≡ Some files
    → MayEnd (Gives before.shelf.files before.shelf.read_faults after.shelf.read_faults) work ending
    → Answers files (Some work) (said_at ending) (files_at ending files)
answers-so files before after work ending other is comes =
    AnswersSo work ending (answered other (told-of files before.shelf.files before.shelf.read_faults
    after.shelf.read_faults work ending is comes))

is-answered : (files : Files) (before after : Outside) (status : ℕ) (work : Work) (ending : Ending)
    → name-of ending ≡ None → before.shelf.files ≡ Some files
    → MayEnd (Gives before.shelf.files before.shelf.read_faults after.shelf.read_faults) work ending
    → after.shelf.files ≡ Some (files_at ending files) → PutsSaid before.sink after.sink (said_at ending) status
    → status ≢ 4 → IsAnswered (Some work) before after status files
is-answered files before after status work ending other is comes left put four =
    let done = whole put four in
    record {
      said = said_at ending;
      afterwards = files_at ending files;
      answer = answers-so files before after work ending other is comes;
      is = done.is;
      put = done.put;
      left = left;
    }

-- about the answer if the contents of files are known
pub answers-of : {asked : Option Work} {before after : Outside} {status : ℕ}
    → Explains before after status asked → (files : Files) → before.shelf.files ≡ Some files → status ≢ 4 → status ≢ 5
    → IsAnswered asked before after status files ⊎ IsUnreadable asked before after status files
answers-of (NoWork same put) files is four five =
    let done = whole put four in
    inl (record {
      said = usage;
      afterwards = files;
      answer = NoAnswer;
      is = done.is;
      put = done.put;
      left = ap files-of same ∙ is;
    })
answers-of (NoRoom asked' same put) files is four five = not-put put five four
answers-of {before = before} {after = after} (Worked work ending comes calls (Unread name left put)) files is four five =
    let done = whole put four in
    let named = names _ work (IsUnread name) comes in
    elim (told-of files before.shelf.files before.shelf.read_faults after.shelf.read_faults work
    (IsUnread name) is comes) [
      | Same so ↦ inl (record {
        said = unread name;
        afterwards = files;
        answer = AnswersSo work (IsUnread name) so;
        is = done.is;
        put = done.put;
        left = ap files-of left.only.0 ∙ is;
      })
      | Unreadable other bytes same there rose ↦ inr (record {
        name = name;
        bytes = bytes;
        read = (work, refl, named.0);
        there = subst (λ (n : List ℕ). get files n ≡ Some bytes) (same-name name other same) there;
        is = done.is;
        failed = rose;
        put = done.put;
        left = left;
      })
    ]
  where
    same-name : (name other : List ℕ) → IsUnread name ≡ IsUnread other → other ≡ name
    same-name name other same = let f : ◌≡◌ {A = Option (List ℕ)} (Some name) (Some other) = ap name-of same in cc
answers-of {before = before} {after = after} (Worked work ending comes calls (Long name limit same put)) files is four five =
    inl (is-answered files before after _ work (IsTooLong name limit) refl is comes (ap files-of same ∙ is) put four)
answers-of {before = before} {after = after}
    (Worked work ending comes calls (Judged seen verdict same put)) files is four five =
    inl (is-answered files before after _ work (IsVerdict seen verdict) refl is comes (ap files-of same ∙ is) put four)
answers-of {before = before} {after = after}
    (Worked work ending comes calls (Written name bytes done written put)) files is four five =
    inl (is-answered files before after _ work (IsWritten name bytes done) refl is comes
    (ap files-of written ∙ ap (option_map (with_file name bytes)) is) put four)
answers-of (Worked work ending comes calls (NotWritten name bytes done refused rose calm put)) files is four five =
    not-put put four four
answers-of (Worked work ending comes calls (Starved name bytes done refused rose calm put)) files is four five =
    not-put put five four

-- about the files at status 4
pub stands-of : {asked : Option Work} {before after : Outside} {status : ℕ}
    → Explains before after status asked → (files : Files) → before.shelf.files ≡ Some files → status ≡ 4
    → (Rose before.shelf.write_faults after.shelf.write_faults → ⊥) → StandsAtFour asked before after files
stands-of (NoWork same put) files is four calm =
    OfAnswer usage files NoAnswer (ap files-of same ∙ is) (cut put four (λ e. omega (arith, e))).less
stands-of (NoRoom asked' same put) files is four calm =
    NoMemoryCut (cut put four (λ e. omega (arith, e))).less (inl same)
stands-of {before = before} {after = after} (Worked work ending comes calls (Unread name left put)) files is four calm =
    let less = (cut put four (λ e. omega (arith, e))).less in
    let named = names _ work (IsUnread name) comes in
    elim (told-of files before.shelf.files before.shelf.read_faults after.shelf.read_faults work
    (IsUnread name) is comes) [
      | Same so ↦ OfAnswer (unread name) files (AnswersSo work (IsUnread name) so) (ap files-of left.only.0 ∙ is) less
      | Unreadable other bytes same there rose ↦ UnreadCut name (work, refl, named.0) less rose left
    ]
stands-of {before = before} {after = after} (Worked work ending comes calls (Long name limit same put)) files is four calm =
    OfAnswer _ files (answers-so files before after work (IsTooLong name limit) refl is comes) (ap files-of same ∙ is)
    (cut put four (λ e. omega (arith, e))).less
stands-of {before = before} {after = after}
    (Worked work ending comes calls (Judged seen verdict same put)) files is four calm =
    OfAnswer _ files (answers-so files before after work (IsVerdict seen verdict) refl is comes) (ap files-of same ∙ is)
    (cut put four (verdict-other verdict 4 (omega arith) (omega arith))).less
stands-of {before = before} {after = after}
    (Worked work ending comes calls (Written name bytes done written put)) files is four calm =
    OfAnswer _ (with_file name bytes files)
    (answers-so files before after work (IsWritten name bytes done) refl is comes)
    (ap files-of written ∙ ap (option_map (with_file name bytes)) is) (cut put four (λ e. omega (arith, e))).less
stands-of (Worked work ending comes calls (NotWritten name bytes done refused rose calm' put)) files is four calm =
    absurd (calm rose)
stands-of (Worked work ending comes calls (Starved name bytes done refused rose calm' put)) files is four calm =
    NoMemoryCut (cut put four (λ e. omega (arith, e))).less
    (inr (record {
      name = name;
      output = (work, refl, names _ work (IsWritten name bytes done) comes);
      starved = rose;
      left = refused;
    }))

-- of completeness
pub complete-of : {asked : Option Work} {before after : Outside} {status : ℕ}
    → Explains before after status asked → (files : Files) → before.shelf.files ≡ Some files
    → ((said : Said) (afterwards : Files) → Answers files asked said afterwards → IsDone said.status)
    → (Rose before.shelf.read_faults after.shelf.read_faults → ⊥)
    → (Rose before.shelf.write_faults after.shelf.write_faults → ⊥)
    → (Rose before.sink.faults after.sink.faults → ⊥) → IsDone status ⊎ (status ≡ 5)
complete-of {status = status} explained files is valid reads writes puts = elim (cases_eq status 4) [
  | inl four ↦
      elim (failed-of explained four) [ inl rose ↦ absurd (puts rose) | inr failed ↦ absurd (writes failed.failed) ]
  | inr four ↦ elim (cases_eq status 5) [
    | inl five ↦ inr five
    | inr five ↦ elim (answers-of explained files is four five) [
      | inl answer ↦ inl (subst IsDone (sym answer.is) (valid answer.said answer.afterwards answer.answer))
      | inr unreadable ↦ absurd (reads unreadable.failed)
    ]
  ]
]
