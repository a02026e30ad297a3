-- From the calls of a log to the ending of a work, for files that have the bytes that were read.
use Rattle.std.proofs.Common.{◌≡◌, ℕ, Bool, true, false, ◌-◌, List, [], ◌∷◌, ◌++◌, Option, Some, None, IfSome, if◌then◌else◌, refl, sym, ap, ◌∙◌, subst}
use Rattle.std.specs.Option.{option_map}
use Rattle.std.proofs.lemmas.List.{append_assoc, append-nil}
use Rattle.std.proofs.lemmas.Option.{same_Some}
use Rattle.gr_outside.specs.Prelude.{Files, Log, Noted, ShelfCall, after_note, bytes_of, fits, logged, read_of, write_of}
use Rattle.call_steps.specs.Prelude.{Follows, StopsHere, Judges, ReadFails, ReadStarves, ReadsMore, ReadsOn, AsksOn, WriteFails, WritesLast, Work, Ending, MayEnd, Ended, Wrote, Missing, TooLong, Found, Answered, Holds, files_at}
use Rattle.call_laws.specs.Prelude.{AreRead, left_by}

-- ---- a log that is visible after a call

-- calls that are visible after one were visible before it, and it is the last
after-note : (call : ShelfCall) (noted : Noted) (all : List ShelfCall) → (after_note call noted).calls ≡ Some all
    → (held : List ShelfCall) × (noted.calls ≡ Some held) × (all ≡ held ++ call ∷ [])
after-note call noted all = by (fits call noted)
  where
    go : (calls : Option (List ShelfCall))
        → option_map (λ (cs : List ShelfCall). cs ++ call ∷ []) calls ≡ Some all
        → (held : List ShelfCall) × (calls ≡ Some held) × (all ≡ held ++ call ∷ [])
    go None told = absurd (let f : ◌≡◌ {A = Option (List ShelfCall)} None (Some all) = told in cc)
    go (Some held) told = (held, refl, sym (same_Some (held ++ call ∷ []) all told))

    by : (fit : Bool)
        → (if◌then◌else◌ {A = Noted} fit
        (record {
          calls = option_map (λ (cs : List ShelfCall). cs ++ call ∷ []) noted.calls;
          room = noted.room - 1;
          bytes = noted.bytes - bytes_of call;
        })
        (record { calls = None; room = 0; bytes = 0 })).calls ≡ Some all
        → (held : List ShelfCall) × (noted.calls ≡ Some held) × (all ≡ held ++ call ∷ [])
    by true told = go noted.calls told
    by false told = absurd (let f : ◌≡◌ {A = Option (List ShelfCall)} None (Some all) = told in cc)

-- a log that keeps a call of this name
logged-kept : (call : ShelfCall) (log : Log) → log.keeps call.name ≡ true
    → logged call log ≡ record log { noted = after_note call log.noted }
logged-kept call log kept =
    ap (λ (b : Bool). if b then record log { noted = after_note call log.noted } else log) kept

module _ (call : ShelfCall) (from after : Log) (kept : from.keeps call.name ≡ true) (noted : after ≡ logged call from) where
  noted-step : (all : List ShelfCall) → after.noted.calls ≡ Some all
      → (held : List ShelfCall) × (from.noted.calls ≡ Some held) × (all ≡ held ++ call ∷ [])
  noted-step all told =
      after-note call from.noted all
      (subst (λ (l : Log). l.noted.calls ≡ Some all) (noted ∙ logged-kept call from kept) told)

  -- it keeps the same names
  keeps-on : (name : List ℕ) → after.keeps name ≡ from.keeps name
  keeps-on name = ap (λ (l : Log). l.keeps name) (noted ∙ logged-kept call from kept)

-- ---- the calls of a work

-- what files that have the bytes that were read say of an ending
abbrev EndsBy : List ShelfCall → Work → Ending → Type 0
EndsBy calls work ending = (files : Files) → AreRead files calls
    → MayEnd (Holds files) work ending × (left_by calls files ≡ files_at ending files)

-- the calls from a log on, up to all of them, and the ending of the work
pub record FromCalls (work : Work) (ending : Option Ending) (from : Log) (all : List ShelfCall) : Type 0 where
  pub held : List ShelfCall
  pub was : from.noted.calls ≡ Some held
  pub more : List ShelfCall
  pub are : all ≡ held ++ more
  pub ends : IfSome ending (EndsBy more work)

no-more : (work : Work) (ending : Option Ending) (log : Log) (all : List ShelfCall) → log.noted.calls ≡ Some all
    → IfSome ending (EndsBy [] work) → FromCalls work ending log all
no-more work ending log all told ends =
    record { held = all; was = told; more = []; are = sym (append-nil all); ends = ends }

one-call : (call : ShelfCall) (work : Work) (ending : Option Ending) (from after : Log)
    → from.keeps call.name ≡ true → after ≡ logged call from → (all : List ShelfCall) → after.noted.calls ≡ Some all
    → IfSome ending (EndsBy (call ∷ []) work) → FromCalls work ending from all
one-call call work ending from after kept noted all told ends =
    let step = noted-step call from after kept noted all told in
    record { held = step.0; was = step.1; more = call ∷ []; are = step.2; ends = ends }

on-ending : (P Q : Ending → Type 0) → ((e : Ending) → P e → Q e) → (ending : Option Ending) → IfSome ending P
    → IfSome ending Q
on-ending P Q f None holds = tt
on-ending P Q f (Some e) holds = f e holds

pub from-calls : (work : Work) (ending : Option Ending) (from after : Log) → Follows work ending from after
    → ((name : List ℕ) → from.keeps name ≡ true) → (all : List ShelfCall) → after.noted.calls ≡ Some all
    → FromCalls work ending from all
from-calls work ending from after (StopsHere work' log) keeps all told = no-more work None from all told tt
from-calls work ending from after (Judges seen verdict log) keeps all told =
    no-more work ending from all told (λ files read. (Ended seen verdict, refl))
from-calls work ending from after (ReadFails name limit next from' after' noted) keeps all told =
    one-call (read_of name None) work ending from after (keeps name) noted all told
    (λ files read. (Missing name limit next (read.0 refl), refl))
from-calls work ending from after (ReadStarves name limit next from' after' noted) keeps all told =
    one-call (read_of name None) work ending from after (keeps name) noted all told tt
from-calls work ending from after (ReadsMore name limit next bytes from' after' noted long) keeps all told =
    one-call (read_of name (Some bytes)) work ending from after (keeps name) noted all told
    (λ files read. (TooLong name limit next bytes (read.0 refl) long, refl))
from-calls work ending from after (ReadsOn name limit next bytes ending' from' between after' noted short rest) keeps all
    told =
    let call = read_of name (Some bytes) in
    let later =
    from-calls (next bytes) ending between after rest
    (λ (n : List ℕ). keeps-on call from between (keeps name) noted n ∙ keeps n) all told in
    let step = noted-step call from between (keeps name) noted later.held later.was in
    record {
      held = step.0;
      was = step.1;
      more = call ∷ later.more;
      are = later.are ∙ ap (λ (h : List ShelfCall). h ++ later.more) step.2
          ∙ append_assoc step.0 (call ∷ []) later.more;
      ends = on-ending (EndsBy later.more (next bytes)) (EndsBy (call ∷ later.more) work)
          (λ e by files read. (
            Found name limit next bytes e (read.0 refl) short (by files read.1).0,
            (by files read.1).1,
          )) ending later.ends;
    }
from-calls work ending from after (AsksOn question next answer ending' from' after' right rest) keeps all told =
    let later = from-calls (next answer) ending from after rest keeps all told in
    record {
      held = later.held;
      was = later.was;
      more = later.more;
      are = later.are;
      ends = on-ending (EndsBy later.more (next answer)) (EndsBy later.more work)
          (λ e by files read. (Answered question next answer e right (by files read).0, (by files read).1)) ending
          later.ends;
    }
from-calls work ending from after (WritesLast name bytes done from' after' noted) keeps all told =
    one-call (write_of name (Some bytes)) work ending from after (keeps name) noted all told
    (λ files read. (Wrote name bytes done, refl))
from-calls work ending from after (WriteFails name bytes done from' after' noted) keeps all told =
    one-call (write_of name None) work ending from after (keeps name) noted all told tt
