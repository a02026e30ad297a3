-- Laws of patterns that are lists of what is shown in sequence.
use Rattle.std.proofs.Common.{◌≡◌, ℕ, ◌+◌, List, [], ◌∷◌, ◌++◌, refl, sym, ap, ◌∙◌, arith}
use Rattle.trace_patterns.specs.Prelude.{Shown, no_events, with_gap, joined, TreeEvent, gap}
use Rattle.stretches.specs.Prelude.{Show, Gap, pattern_of_one, pattern_of}
use Rattle.trace_patterns.proofs.PatternLaws.{shown-same, no_events-joined, joined-no_events, joined-assoc, joined-gap, with_gap-more}

-- two lists in sequence are two patterns in sequence
pub pattern_of-append : (xs ys : List Show) → pattern_of (xs ++ ys) ≡ joined (pattern_of xs) (pattern_of ys)
pattern_of-append [] ys = sym (no_events-joined (pattern_of ys))
pattern_of-append (x ∷ xs) ys =
    ap (joined (pattern_of_one x)) (pattern_of-append xs ys)
    ∙ sym (joined-assoc (pattern_of_one x) (pattern_of xs) (pattern_of ys))

pub pattern_of-alone : (x : Show) → pattern_of (x ∷ []) ≡ pattern_of_one x
pattern_of-alone x = joined-no_events (pattern_of_one x)

-- gaps add up
pub no_gap : gap 0 ≡ no_events
no_gap = shown-same (gap 0) no_events refl (omega arith)

pub gaps-joined : (m n : ℕ) → joined (gap m) (gap n) ≡ gap (m + n)
gaps-joined m n =
    joined-gap (gap m) no_events n ∙ ap (λ (p : Shown TreeEvent). with_gap p n) (joined-no_events (gap m))
    ∙ with_gap-more no_events m n

-- two gaps at the beginning become one
pub pattern_of-gaps : (m n : ℕ) (shows : List Show)
    → pattern_of (Gap m ∷ Gap n ∷ shows) ≡ pattern_of (Gap (m + n) ∷ shows)
pattern_of-gaps m n shows =
    sym (joined-assoc (gap m) (gap n) (pattern_of shows))
    ∙ ap (λ (p : Shown TreeEvent). joined p (pattern_of shows)) (gaps-joined m n)

-- a gap at the end
pub pattern_of-gap : (shows : List Show) (n : ℕ)
    → pattern_of (shows ++ Gap n ∷ []) ≡ with_gap (pattern_of shows) n
pattern_of-gap shows n =
    pattern_of-append shows (Gap n ∷ []) ∙ ap (joined (pattern_of shows)) (pattern_of-alone (Gap n))
    ∙ joined-gap (pattern_of shows) no_events n
    ∙ ap (λ (p : Shown TreeEvent). with_gap p n) (joined-no_events (pattern_of shows))
