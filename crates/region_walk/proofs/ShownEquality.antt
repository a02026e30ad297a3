-- Patterns over trees are equal exactly if they compare as equal.
use Rattle.std.proofs.Common.{◌≡◌, true, ◌==◌, refl, ap, subst}
use Rattle.std.specs.Bool.{Decides}
use Rattle.std.specs.Cmp.Lexicographic.{pointwise}
use Rattle.std.proofs.lemmas.Bool.{false≢true, and_parts, and_from, eqb-true, eq-eqb}
use Rattle.symbolic_values.proofs.TreeEquality.{same_tree-true, same_tree-own}
use Rattle.trace_patterns.specs.Prelude.{Shown, TreeEvent, RamRead, EncRead, EncWrite, Oram}
use Rattle.trace_patterns.proofs.PatternEquality.{decides_parts}
use Rattle.region_walk.specs.Prelude.{same_event, same_part, same_shown}

same_event-true : (a b : TreeEvent) → same_event a b ≡ true → a ≡ b
unfolding same_event
same_event-true (RamRead a) (RamRead b) e = ap RamRead (same_tree-true a b e)
same_event-true (EncRead a) (EncRead b) e = ap EncRead (same_tree-true a b e)
same_event-true (EncWrite a) (EncWrite b) e = ap EncWrite (same_tree-true a b e)
same_event-true (Oram a) (Oram b) e = ap Oram (eqb-true a b e)
same_event-true a b e = absurd (false≢true e)

same_event-own : (a : TreeEvent) → same_event a a ≡ true
unfolding same_event
same_event-own (RamRead a) = same_tree-own a
same_event-own (EncRead a) = same_tree-own a
same_event-own (EncWrite a) = same_tree-own a
same_event-own (Oram b) = eq-eqb b b refl

decides_event : (a b : TreeEvent) → Decides (same_event a b) (a ≡ b)
decides_event a b = (same_event-true a b, λ e. subst (λ (x : TreeEvent). same_event a x ≡ true) e (same_event-own a))

-- the comparison of two patterns over trees decides whether they are equal
pub decides_shown : (p q : Shown TreeEvent) → Decides (same_shown p q) (p ≡ q)
unfolding same_shown
decides_shown p q = (
  λ e.
      let tests = and_parts (p.last == q.last) (pointwise same_part p.parts q.parts) e in
      (decides_parts same_event decides_event p q _ (eqb-true p.last q.last tests.0) refl).0 tests.1,
  λ e.
      let last : p.last ≡ q.last = ap (λ (s : Shown TreeEvent). s.last) e in
      and_from (p.last == q.last) (pointwise same_part p.parts q.parts) (eq-eqb p.last q.last last)
      ((decides_parts same_event decides_event p q _ last refl).1 e),
)
