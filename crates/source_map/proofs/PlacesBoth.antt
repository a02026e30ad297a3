-- The places of statements that are put together.
use Rattle.std.proofs.Common.{ℕ, ◌+◌, ◌≤◌, List, ◌++◌, arith}
use Rattle.src_lexer.specs.declared.tokens.Kind.{Kind}
use Rattle.source_map.specs.Places.{Places, NoMore, Next}

module _ {S : Type 0} {Is : List Kind → S → Type 0} {tokens : List Kind} where
  -- from an earlier token, and up to a later one
  pub places_wider : {from to : ℕ} {xs : List S} {starts ends : List ℕ} (low high : ℕ) → low ≤ from → to ≤ high
      → Places Is tokens from to xs starts ends → Places Is tokens low high xs starts ends
  places_wider low high below above (NoMore h) = NoMore (let e : low ≤ high = omega arith in e)
  places_wider low high below above (Next {start = start} h place rest) =
      Next (let e : low ≤ start = omega arith in e) place
      (places_wider (start + 1) high (let e : start + 1 ≤ start + 1 = omega arith in e) above rest)

  -- some statements, and then others
  pub places_both : {from between to : ℕ} {xs ys : List S} {starts ends more_starts more_ends : List ℕ}
      → Places Is tokens from between xs starts ends → Places Is tokens between to ys more_starts more_ends
      → between ≤ to
      → Places Is tokens from to (xs ++ ys) (starts ++ more_starts) (ends ++ more_ends)
  places_both {to = to} (NoMore h) more low = places_wider _ to h (let e : to ≤ to = omega arith in e) more
  places_both (Next h place rest) more low = Next h place (places_both rest more low)
