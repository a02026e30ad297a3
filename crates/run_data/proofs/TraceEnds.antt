-- Where the reading of a trace stops: at its end, or at the line that breaks it.
use Rattle.std.proofs.Common.{◌≡◌, ◌≢◌, ℕ, ◌+◌, ◌-◌, ◌<◌, ◌≤◌, Bool, true, false, cond, eqb, bytes_eq, ⊎_elim, ◌⊎◌, inl, inr, List, [], ◌∷◌, ◌++◌, length, get_or, take, drop, Option, Some, None, refl, sym, ap, ◌∙◌, subst, arith, append_assoc, length-append}
use Rattle.std.specs.List.{slice_split}
use Rattle.std.proofs.lemmas.Bool.{cases_lt, eqb-true, eqb-false, false≢true}
use Rattle.std.proofs.lemmas.List.{append-nil, take_more, take_all, length-take-le, get_or-take, take-append-drop, nil_from_length}
use Rattle.std.proofs.lemmas.Slice.Eq.{bytes_eq-Decides}
use Rattle.std.proofs.Math.Seq.{take-length, take-append_seam, get_or-append_seam}
use Rattle.lt_isa.specs.Prelude.{Stamped}
use Rattle.run_data.specs.Prelude.{ending_text, AreEvents, SpellsTrace, TraceBegins, BreaksAt, trace_lines, front_parts, RunStops, break_of}
use Rattle.run_data.proofs.TraceParts.{no_end, split-text, text-from_parts}
use Rattle.run_data.proofs.TraceSteps.{ended, next-line}

-- the cases of `break_of`
whole-if : (a b d e : Bool) (x y : ℕ)
    → cond a (Some x) (cond b (cond d (cond e None (Some y)) (Some y)) (Some x)) ≡ None
    → (a ≡ false) × (b ≡ true) × (d ≡ true) × (e ≡ true)
whole-if true b d e x y is = absurd (let f : ◌≡◌ {A = Option ℕ} (Some x) None = is in cc)
whole-if false false d e x y is = absurd (let f : ◌≡◌ {A = Option ℕ} (Some x) None = is in cc)
whole-if false true false e x y is = absurd (let f : ◌≡◌ {A = Option ℕ} (Some y) None = is in cc)
whole-if false true true false x y is = absurd (let f : ◌≡◌ {A = Option ℕ} (Some y) None = is in cc)
whole-if false true true true x y is = (refl, refl, refl, refl)

-- the cases of where a text breaks
pub broken-if : (a b d e : Bool) (x y m : ℕ)
    → cond a (Some x) (cond b (cond d (cond e None (Some y)) (Some y)) (Some x)) ≡ Some m → ((x ≡ m) × (a ≡ true))
    ⊎ (((x ≡ m) × (a ≡ false) × (b ≡ false)) ⊎ ((y ≡ m) × (a ≡ false) × (b ≡ true) × ((d ≡ false) ⊎ (e ≡ false))))
broken-if true b d e x y m is = inl (cc, refl)
broken-if false false d e x y m is = inr (inl (cc, refl, refl))
broken-if false true false e x y m is = inr (inr (cc, refl, refl, inl refl))
broken-if false true true false x y m is = inr (inr (cc, refl, refl, inr refl))
broken-if false true true true x y m is = absurd (let f : ◌≡◌ {A = Option ℕ} None (Some m) = is in cc)

-- parts are lines and a last part
pub length-front : (parts : List (List ℕ)) → length (front_parts parts) ≡ length parts - 1
length-front parts = length-take-le (length parts - 1) parts (omega arith)

front-last : (parts : List (List ℕ))
    → 1 ≤ length parts → parts ≡ front_parts parts ++ get_or parts (length parts - 1) [] ∷ []
front-last parts some =
    sym (take-length parts) ∙ ap (λ n. take n parts) (let e : length parts ≡ length parts - 1 + 1 = omega arith in e)
    ∙ take_more parts (length parts - 1) [] (omega arith)

front-of : (parts lines : List (List ℕ)) → parts ≡ lines ++ [] ∷ [] → front_parts parts ≡ lines
front-of parts lines is =
    let count : length (lines ++ [] ∷ []) - 1 ≡ length lines = omega (arith, length-append lines ([] ∷ [])) in
    ap front_parts is ∙ ap (λ n. take n (lines ++ [] ∷ [])) count ∙ take-append_seam lines ([] ∷ [])

record PartsBreak (size : ℕ) (parts : List (List ℕ)) (m : ℕ) : Type 0 where
  none : (all : List Stamped) (halted : Bool) → AreEvents size 0 all halted → parts ≢ trace_lines all halted ++ [] ∷ []
  counted : 1 ≤ m
  within : m ≤ length (front_parts parts) + 1
  before : TraceBegins size (take (m - 1) (front_parts parts))
  there : m ≤ length (front_parts parts) → TraceBegins size (take m (front_parts parts)) → ⊥

-- where no trace begins with some lines, the parts are none of a trace
none-from : (size : ℕ) (parts : List (List ℕ)) (m : ℕ) → (TraceBegins size (take m (front_parts parts)) → ⊥)
    → (all : List Stamped) (halted : Bool) → AreEvents size 0 all halted → parts ≢ trace_lines all halted ++ [] ∷ []
none-from size parts m blocked all halted are is =
    blocked (
      all,
      halted,
      drop m (front_parts parts),
      are,
      sym (take-append-drop m (front_parts parts) ∙ front-of parts (trace_lines all halted) is),
    )

lines_some : (all : List Stamped) (halted : Bool) → [] ≢ trace_lines all halted
lines_some [] halted is = cc
lines_some (s ∷ all) halted is = cc

-- Where reading stopped, a trace stops too: at a line that is neither its end nor an event's ..
stuck : (size : ℕ) (lines : List (List ℕ)) (events : List Stamped) (halts : Bool)
    (run : RunStops size lines events halts) → length events < length lines
    → get_or lines (length events) [] ≢ ending_text halts → TraceBegins size (take (length events + 1) lines) → ⊥
stuck size lines events halts run within other (all, halted, rest, are, is) =
    let n = length events in
    let line = get_or lines n [] in
    let whole : trace_lines all halted ≡ take n lines ++ line ∷ rest =
    is ∙ ap (λ front. front ++ rest) (take_more lines n [] within) ∙ append_assoc (take n lines) (line ∷ []) rest in
    let next = run.read.back all halted (line ∷ rest) are whole in
    ⊎_elim (λ end. other end.0) (λ event. run.stops within event.0 event.1.0 event.1.1 event.1.2 event.1.3)
    (next-line size run.least halts next.0 halted line rest next.1 next.2)

-- .. after its end ..
stuck_behind : (size : ℕ) (lines : List (List ℕ)) (events : List Stamped) (halts : Bool)
    (run : RunStops size lines events halts) → length events + 1 < length lines
    → get_or lines (length events) [] ≡ ending_text halts → TraceBegins size (take (length events + 2) lines) → ⊥
stuck_behind size lines events halts run within end (all, halted, rest, are, is) =
    let n = length events in
    let line = get_or lines n [] in
    let behind = get_or lines (n + 1) [] in
    let two : take (n + 2) lines ≡ (take n lines ++ line ∷ []) ++ behind ∷ [] =
    ap (λ k. take k lines) (let e : n + 2 ≡ n + 1 + 1 = omega arith in e) ∙ take_more lines (n + 1) [] within
    ∙ ap (λ front. front ++ behind ∷ []) (take_more lines n [] (omega arith)) in
    let whole : trace_lines all halted ≡ take n lines ++ line ∷ behind ∷ rest =
    is ∙ ap (λ front. front ++ rest) two ∙ append_assoc (take n lines ++ line ∷ []) (behind ∷ []) rest
    ∙ append_assoc (take n lines) (line ∷ []) (behind ∷ rest) in
    let next = run.read.back all halted (line ∷ behind ∷ rest) are whole in
    ⊎_elim (λ last. absurd (let f : ◌≡◌ {A = List (List ℕ)} (behind ∷ rest) [] = last.1 in cc))
    (λ event. no_end size event.1.0 halts event.1.1 (sym event.1.3 ∙ end))
    (next-line size run.least halts next.0 halted line (behind ∷ rest) next.1 next.2)

-- .. and where the lines end before its end.
unended : (size : ℕ) (lines : List (List ℕ)) (events : List Stamped) (halts : Bool)
    (run : RunStops size lines events halts) → length lines ≤ length events → (all : List Stamped) (halted : Bool)
    → AreEvents size 0 all halted → trace_lines all halted ≢ lines
unended size lines events halts run past all halted are is =
    let whole : trace_lines all halted ≡ take (length events) lines ++ [] =
    is ∙ sym (append-nil lines) ∙ ap (λ l. l ++ []) (sym (take_all (length events) lines past)) in
    let next = run.read.back all halted [] are whole in
    lines_some next.0 halted next.2

-- the lines that were read begin a trace, and followed by its end they are a whole one
begun : (size : ℕ) (lines : List (List ℕ)) (events : List Stamped) (halts : Bool)
    → RunStops size lines events halts → TraceBegins size (take (length events) lines)
begun size lines events halts run =
    let whole = ended size run.least (take (length events) lines) events halts run.read in
    (events, halts, ending_text halts ∷ [], whole.0, whole.1)

with_end : (size : ℕ) (lines : List (List ℕ)) (events : List Stamped) (halts : Bool)
    → RunStops size lines events halts → length events < length lines → get_or lines (length events) []
    ≡ ending_text halts
    → AreEvents size 0 events halts × (trace_lines events halts ≡ take (length events + 1) lines)
with_end size lines events halts run within end =
    let whole = ended size run.least (take (length events) lines) events halts run.read in (
      whole.0,
      whole.1 ∙ ap (λ line. take (length events) lines ++ line ∷ []) (sym end)
          ∙ sym (take_more lines (length events) [] within),
    )

-- the line at a place of the parts that isn't the last
pub front-at : (parts : List (List ℕ)) (i : ℕ)
    → i < length parts - 1 → get_or (front_parts parts) i [] ≡ get_or parts i []
front-at parts i within = get_or-take (length parts - 1) parts i [] within

-- lines to the end of a text are a trace
pub whole-trace : (size : ℕ) (text : List ℕ) (parts : List (List ℕ)) (events : List Stamped) (halts : Bool)
    → slice_split (λ byte. eqb byte 10) text ≡ parts → 1 ≤ length parts → RunStops size (front_parts parts) events halts
    → break_of parts (length events) halts ≡ None → SpellsTrace size text events halts
whole-trace size text parts events halts split some run is =
    let n = length events in
    let facts =
    whole-if (eqb (n + 1) (length parts)) (bytes_eq (get_or parts n []) (ending_text halts))
    (eqb (n + 2) (length parts))
    (eqb (length (get_or parts (n + 1) [])) 0) (n + 1) (n + 2) is in
    let count = length-front parts in
    let place : n + 2 ≡ length parts = eqb-true (n + 2) (length parts) facts.2 in
    let end : get_or (front_parts parts) n [] ≡ ending_text halts =
    front-at parts n (omega arith) ∙ (bytes_eq-Decides (get_or parts n []) (ending_text halts)).0 facts.1 in
    let whole = with_end size (front_parts parts) events halts run (omega arith) end in
    let lines : trace_lines events halts ≡ front_parts parts =
    whole.1 ∙ take_all (n + 1) (front_parts parts) (omega arith) in
    let last : get_or parts (length parts - 1) [] ≡ [] =
    ap (λ i. get_or parts i []) (let e : length parts - 1 ≡ n + 1 = omega arith in e)
    ∙ nil_from_length (get_or parts (n + 1) []) (eqb-true (length (get_or parts (n + 1) [])) 0 facts.3) in (
      whole.0,
      text-from_parts text events halts (split ∙ front-last parts some
          ∙ ap (λ part. front_parts parts ++ part ∷ []) last ∙ ap (λ l. l ++ [] ∷ []) (sym lines)),
    )

-- the three places of a break
break-at_last : (size : ℕ) (parts : List (List ℕ)) (events : List Stamped) (halts : Bool) (m : ℕ)
    → 1 ≤ length parts → RunStops size (front_parts parts) events halts → length events + 1 ≡ length parts
    → length events + 1 ≡ m → PartsBreak size parts m
break-at_last size parts events halts m some run place m_is =
    let count = length-front parts in
    record {
      none = λ all halted are is. unended size (front_parts parts) events halts run (omega arith) all halted are
          (sym (front-of parts (trace_lines all halted) is));
      counted = omega arith;
      within = omega arith;
      before = subst (λ k. TraceBegins size (take k (front_parts parts))) (let e : length events ≡ m - 1 = omega arith
          in e)
          (begun size (front_parts parts) events halts run);
      there = λ low begins. absurd (omega arith);
    }

break-at_line : (size : ℕ) (parts : List (List ℕ)) (events : List Stamped) (halts : Bool) (m : ℕ)
    → 1 ≤ length parts → RunStops size (front_parts parts) events halts → length events < length (front_parts parts)
    → bytes_eq (get_or parts (length events) []) (ending_text halts) ≡ false → length events + 1 ≡ m
    → PartsBreak size parts m
break-at_line size parts events halts m some run within differs m_is =
    let count = length-front parts in
    let line = get_or parts (length events) [] in
    let other : get_or (front_parts parts) (length events) [] ≢ ending_text halts =
    λ same. false≢true (sym differs
    ∙ (bytes_eq-Decides line (ending_text halts)).1 (sym (front-at parts (length events) (omega arith)) ∙ same)) in
    let blocked =
    λ (begins : TraceBegins size (take m (front_parts parts))). stuck size (front_parts parts) events halts run within
    other
    (subst (λ k. TraceBegins size (take k (front_parts parts))) (sym m_is) begins) in
    record {
      none = none-from size parts m blocked;
      counted = omega arith;
      within = omega arith;
      before = subst (λ k. TraceBegins size (take k (front_parts parts))) (let e : length events ≡ m - 1 = omega arith
          in e)
          (begun size (front_parts parts) events halts run);
      there = λ low begins. blocked begins;
    }

break-behind : (size : ℕ) (parts : List (List ℕ)) (events : List Stamped) (halts : Bool) (m : ℕ)
    → 1 ≤ length parts → RunStops size (front_parts parts) events halts → length events < length (front_parts parts)
    → bytes_eq (get_or parts (length events) []) (ending_text halts) ≡ true
    → (eqb (length events + 2) (length parts) ≡ false) ⊎ (eqb (length (get_or parts (length events + 1) [])) 0 ≡ false)
    → length events + 2 ≡ m → PartsBreak size parts m
break-behind size parts events halts m some run within same more m_is =
    let n = length events in
    let count = length-front parts in
    let end : get_or (front_parts parts) n [] ≡ ending_text halts =
    front-at parts n (omega arith) ∙ (bytes_eq-Decides (get_or parts n []) (ending_text halts)).0 same in
    let whole = with_end size (front_parts parts) events halts run within end in
    let blocked = λ (low : m ≤ length (front_parts parts)) (begins : TraceBegins size (take m (front_parts parts))).
    stuck_behind size (front_parts parts) events halts run (omega arith) end
    (subst (λ k. TraceBegins size (take k (front_parts parts))) (sym m_is) begins) in
    record {
      none = λ all halted are is.
          ⊎_elim
          (λ last.
          let place : n + 2 ≡ length parts = omega arith in
          let lines = front-of parts (trace_lines all halted) is in
          let at : length (trace_lines all halted) ≡ n + 1 = omega (arith, ap length lines) in
          let nothing : get_or parts (n + 1) [] ≡ [] =
          ap (λ l. get_or l (n + 1) []) is ∙ ap (λ i. get_or (trace_lines all halted ++ [] ∷ []) i []) (sym at)
          ∙ get_or-append_seam (trace_lines all halted) [] [] [] in
          ⊎_elim (λ apart. eqb-false (n + 2) (length parts) apart place)
          (λ full. eqb-false (length (get_or parts (n + 1) [])) 0 full (ap length nothing)) more)
          (λ low. none-from size parts m (blocked low) all halted are is)
          (cases_lt (length (front_parts parts)) m);
      counted = omega arith;
      within = omega arith;
      before = (
        events,
        halts,
        [],
        whole.0,
        whole.1 ∙ ap (λ k. take k (front_parts parts)) (let e : n + 1 ≡ m - 1 = omega arith in e)
            ∙ sym (append-nil (take (m - 1) (front_parts parts))),
      );
      there = blocked;
    }

broken-trace : (size : ℕ) (parts : List (List ℕ)) (events : List Stamped) (halts : Bool) (m : ℕ)
    → 1 ≤ length parts → RunStops size (front_parts parts) events halts → break_of parts (length events) halts ≡ Some m
    → PartsBreak size parts m
broken-trace size parts events halts m some run is =
    let n = length events in
    let count = length-front parts in
    ⊎_elim (λ last. break-at_last size parts events halts m some run (eqb-true (n + 1) (length parts) last.1) last.0)
    (⊎_elim
    (λ line.
    let apart = eqb-false (n + 1) (length parts) line.1 in
    break-at_line size parts events halts m some run (omega (arith, run.within)) line.2 line.0)
    (λ behind.
    let apart = eqb-false (n + 1) (length parts) behind.1 in
    break-behind size parts events halts m some run (omega (arith, run.within)) behind.2 behind.3 behind.0))
    (broken-if (eqb (n + 1) (length parts)) (bytes_eq (get_or parts n []) (ending_text halts))
    (eqb (n + 2) (length parts))
    (eqb (length (get_or parts (n + 1) [])) 0) (n + 1) (n + 2) m is)

-- lines that break aren't a trace, from that line on
pub breaks-at : (size : ℕ) (text : List ℕ) (parts : List (List ℕ)) (events : List Stamped) (halts : Bool) (m : ℕ)
    → slice_split (λ byte. eqb byte 10) text ≡ parts → 1 ≤ length parts → RunStops size (front_parts parts) events halts
    → break_of parts (length events) halts ≡ Some m → BreaksAt size text m
breaks-at size text parts events halts m split some run is =
    let broken = broken-trace size parts events halts m some run is in
    let lines : front_parts parts ≡ front_parts (slice_split (λ byte. eqb byte 10) text) = ap front_parts (sym split) in
    record {
      spells_none = λ all halted spells.
          broken.none all halted spells.0
          (sym split ∙ ap (slice_split (λ byte. eqb byte 10)) spells.1 ∙ split-text size 0 all halted spells.0);
      counted = broken.counted;
      within = subst (λ l. m ≤ length l + 1) lines broken.within;
      before = subst (λ l. TraceBegins size (take (m - 1) l)) lines broken.before;
      there = subst (λ l. m ≤ length l → TraceBegins size (take m l) → ⊥) lines broken.there;
    }
