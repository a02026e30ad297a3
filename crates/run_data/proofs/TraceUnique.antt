-- A text encodes at most one trace.
use Rattle.std.proofs.Common.{◌≡◌, ℕ, ◌+◌, Bool, true, false, eqb, ⊎_elim, List, [], ◌∷◌, ◌++◌, length, refl, sym, ap, ◌∙◌, subst, arith}
use Rattle.std.specs.List.{slice_split}
use Rattle.std.proofs.lemmas.List.{append_cancel_right}
use Rattle.lt_isa.specs.Prelude.{Stamped}
use Rattle.run_data.specs.Prelude.{line_of, ending_text, LineFits, AreEvents, SpellsTrace, trace_lines}
use Rattle.run_data.proofs.TraceSpelling.{same-line}
use Rattle.run_data.proofs.TraceParts.{GoesOn-cases, split-text, no_end}

abbrev AllFit : ℕ → List Stamped → Type 0
AllFit size [] = Unit {0}
AllFit size (s ∷ events) = LineFits size s × AllFit size events

all-fit : (size least : ℕ) (events : List Stamped) (halted : Bool)
    → AreEvents size least events halted → AllFit size events
all-fit size least [] halted are = tt
all-fit size least (s ∷ events) halted are =
    let later : AreEvents size (s.stamp + 1) events halted → AllFit size events =
    all-fit size (s.stamp + 1) events halted in (
      are.1,
      ⊎_elim later (λ last. subst (AllFit size) (sym last.0) tt)
          (GoesOn-cases s.event events halted (AreEvents size (s.stamp + 1) events halted) are.2),
    )

same-end : (one two : Bool) → ending_text one ≡ ending_text two → one ≡ two
same-end true true is = refl
same-end true false is = absurd (omega (arith, ap length is))
same-end false true is = absurd (omega (arith, ap length is))
same-end false false is = refl

same-lines : (size : ℕ) (one two : List Stamped) (h g : Bool)
    → AllFit size one → AllFit size two → trace_lines one h ≡ trace_lines two g → (one ≡ two) × (h ≡ g)
same-lines size [] [] h g fit git is = (refl, same-end h g cc)
same-lines size [] (t ∷ two) h g fit git is =
    let head : ending_text h ≡ line_of t.stamp t.event = cc in absurd (no_end size t h git.0 (sym head))
same-lines size (s ∷ one) [] h g fit git is =
    let head : line_of s.stamp s.event ≡ ending_text g = cc in absurd (no_end size s g fit.0 head)
same-lines size (s ∷ one) (t ∷ two) h g fit git is =
    let head : line_of s.stamp s.event ≡ line_of t.stamp t.event = cc in
    let tail : trace_lines one h ≡ trace_lines two g = cc in
    let first = same-line size s t fit.0 git.0 head in
    let rest = same-lines size one two h g fit.1 git.1 tail in
    (ap (λ e. e ∷ one) first ∙ ap (λ es. t ∷ es) rest.0, rest.1)

-- one text encodes one trace
pub same-trace : (size : ℕ) (text : List ℕ) (one two : List Stamped) (h g : Bool)
    → SpellsTrace size text one h → SpellsTrace size text two g → (one ≡ two) × (h ≡ g)
same-trace size text one two h g first second =
    let parts : trace_lines one h ++ [] ∷ [] ≡ trace_lines two g ++ [] ∷ [] =
    sym (split-text size 0 one h first.0) ∙ ap (slice_split (λ byte. eqb byte 10)) (sym first.1 ∙ second.1)
    ∙ split-text size 0 two g second.0 in
    same-lines size one two h g (all-fit size 0 one h first.0) (all-fit size 0 two g second.0)
    (append_cancel_right (trace_lines one h) (trace_lines two g) ([] ∷ []) parts)
