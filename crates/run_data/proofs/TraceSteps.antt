-- Lines of a trace that are read one after another.
use Rattle.std.proofs.Common.{◌≡◌, ℕ, ◌+◌, ◌≤◌, Bool, true, false, ◌⊎◌, inl, inr, List, [], ◌∷◌, ◌++◌, map, refl, sym, ap, ◌∙◌, subst, append_assoc}
use Rattle.std.proofs.lemmas.List.{append-nil, map-append}
use Rattle.lt_isa.specs.Prelude.{Observed, RamRead, RamWrite, EncRead, EncWrite, Oram, Halted, Stamped}
use Rattle.run_data.specs.Prelude.{line_of, ending_text, LineFits, GoesOn, AreEvents, trace_lines, is_halt, MayFollow, AreRead}
use Rattle.run_data.proofs.TraceSpelling.{same-line}
use Rattle.run_data.proofs.TraceParts.{no_end}

-- what may follow an event, in both paths of saying it
GoesOn-from : (size least : ℕ) (e : Observed) (more : List Stamped) (halted : Bool)
    → MayFollow (is_halt e) size least more halted → GoesOn e more halted (AreEvents size least more halted)
GoesOn-from size least Halted more halted follows = follows
GoesOn-from size least _ more halted follows = follows

MayFollow-from : (size least : ℕ) (e : Observed) (more : List Stamped) (halted : Bool)
    → GoesOn e more halted (AreEvents size least more halted) → MayFollow (is_halt e) size least more halted
MayFollow-from size least Halted more halted goes = goes
MayFollow-from size least _ more halted goes = goes

-- an event is the first of a trace whose first line is its line
first-event : (size least : ℕ) (all : List Stamped) (halted : Bool) (s : Stamped) (rest : List (List ℕ))
    → AreEvents size least all halted → LineFits size s → line_of s.stamp s.event ∷ rest ≡ trace_lines all halted
    → (more : List Stamped) × MayFollow (is_halt s.event) size (s.stamp + 1) more halted
    × (rest ≡ trace_lines more halted)
first-event size least [] halted s rest are fits is =
    absurd (no_end size s halted fits (let head : line_of s.stamp s.event ≡ ending_text halted = cc in head))
first-event size least (t ∷ more) halted s rest are fits is =
    let head : line_of s.stamp s.event ≡ line_of t.stamp t.event = cc in
    let tail : rest ≡ trace_lines more halted = cc in
    let same = same-line size s t fits are.1 head in (
      more,
      subst (λ e. MayFollow (is_halt e.event) size (e.stamp + 1) more halted) (sym same)
          (MayFollow-from size (t.stamp + 1) t.event more halted are.2),
      tail,
    )

-- one line more is read
pub AreRead-more : (size least : ℕ) (lines : List (List ℕ)) (events : List Stamped) (line : List ℕ) (s : Stamped)
    → AreRead size lines events false least → least ≤ s.stamp → LineFits size s → line ≡ line_of s.stamp s.event
    → AreRead size (lines ++ line ∷ []) (events ++ s ∷ []) (is_halt s.event) (s.stamp + 1)
AreRead-more size least lines events line s before high fits is = record {
  read = rw (map-append, before.read, is) refl;
  forth = λ more halted follows.
      rw append_assoc
      (before.forth (s ∷ more) halted (high, fits, GoesOn-from size (s.stamp + 1) s.event more halted follows));
  back = λ all halted rest are whole.
      let next = before.back all halted (line ∷ rest) are (whole ∙ append_assoc lines (line ∷ []) rest) in
      first-event size least next.0 halted s rest next.1 fits (ap (λ l. l ∷ rest) (sym is) ∙ next.2);
}

-- the lines of a trace are those of its events and the last
pub lines-of_events : (events : List Stamped) (halted : Bool)
    → trace_lines events halted ≡ map (λ s. line_of s.stamp s.event) events ++ ending_text halted ∷ []
lines-of_events [] halted = refl
lines-of_events (s ∷ events) halted = ap (λ lines. line_of s.stamp s.event ∷ lines) (lines-of_events events halted)

-- the end may follow
pub end_follows : (halts : Bool) (size least : ℕ) → MayFollow halts size least [] halts
end_follows true size least = (refl, refl)
end_follows false size least = refl

-- lines that were read are a trace once its end follows them
pub ended : (size least : ℕ) (lines : List (List ℕ)) (events : List Stamped) (halts : Bool)
    → AreRead size lines events halts least
    → AreEvents size 0 events halts × (trace_lines events halts ≡ lines ++ ending_text halts ∷ [])
ended size least lines events halts read = (
  subst (λ all. AreEvents size 0 all halts) (append-nil events) (read.forth [] halts (end_follows halts size least)),
  lines-of_events events halts ∙ ap (λ l. l ++ ending_text halts ∷ []) (sym read.read),
)

-- what comes next in a trace: its end, or the line of an event that is allowed there
pub next-line : (size least : ℕ) (halts : Bool) (more : List Stamped) (halted : Bool) (line : List ℕ)
    (rest : List (List ℕ)) → MayFollow halts size least more halted → line ∷ rest ≡ trace_lines more halted
    → ((line ≡ ending_text halts) × (rest ≡ []))
    ⊎ ((halts ≡ false) × ((s : Stamped) × LineFits size s × (least ≤ s.stamp) × (line ≡ line_of s.stamp s.event)))
next-line size least true more halted line rest follows is =
    let whole : line ∷ rest ≡ ending_text true ∷ [] =
    is ∙ ap (λ es. trace_lines es halted) follows.0 ∙ ap (λ h. ending_text h ∷ []) follows.1 in
    inl (cc, cc)
next-line size least false [] halted line rest follows is =
    let whole : line ∷ rest ≡ ending_text false ∷ [] = is ∙ ap (λ h. ending_text h ∷ []) follows in
    inl (cc, cc)
next-line size least false (s ∷ more) halted line rest follows is = inr (refl, (s, follows.1, follows.0, cc))
