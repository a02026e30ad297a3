-- Patterns are equal exactly if their parts compare as equal.
use Rattle.std.proofs.Common.{◌≡◌, ℕ, Bool, true, ◌&&◌, ◌==◌, ap, subst, rules}
use Rattle.std.specs.Bool.{Decides}
use Rattle.std.specs.Cmp.Lexicographic.{pointwise}
use Rattle.std.proofs.lemmas.Bool.{false≢true, and_parts, and_from}
use Rattle.std.proofs.lemmas.Bool.Decides.{Decides-eqb}
use Rattle.std.proofs.lemmas.Slice.Eq.{slice_eq-Decides}
use Rattle.trace_patterns.specs.declared.events.SymEvent.{SymEvent}
use Rattle.trace_patterns.specs.contracts.events.SymEventPartialEq.TheImpl.{ghosts}
use Rattle.trace_patterns.specs.contracts.events.SymEventEq.TheImpl.Laws.{laws-law}
use Rattle.trace_patterns.specs.Prelude.{Shown}
use Rattle.trace_patterns.specs.declared.events.SymEvent.TheVariants as number

-- two pairs are equal if both components are
decides_pair : {A B : Type 0} (E : A → A → Bool) (F : B → B → Bool) → ((a b : A) → Decides (E a b) (a ≡ b))
    → ((a b : B) → Decides (F a b) (a ≡ b)) → (x y : A × B) → Decides (E x.0 y.0 && F x.1 y.1) (x ≡ y)
decides_pair {A} {B} E F first second x y = (
  λ e.
      let parts = and_parts (E x.0 y.0) (F x.1 y.1) e in
      let left : x.0 ≡ y.0 = (first x.0 y.0).0 parts.0 in
      let right : x.1 ≡ y.1 = (second x.1 y.1).0 parts.1 in
      λ i. (left i, right i),
  λ e. and_from (E x.0 y.0) (F x.1 y.1) ((first x.0 y.0).1 (λ i. (e i).0)) ((second x.1 y.1).1 (λ i. (e i).1)),
)

-- patterns with equal last gaps are equal exactly if their parts compare as equal
pub decides_parts : {E : Type 0} (F : E → E → Bool) → ((a b : E) → Decides (F a b) (a ≡ b)) → (p q : Shown E) (r : Bool)
    → p.last ≡ q.last → r ≡ pointwise (λ x y. (x.0 == y.0) && F x.1 y.1) p.parts q.parts → Decides r (p ≡ q)
decides_parts {E} F decides p q r last is =
    let parts = slice_eq-Decides {E = λ (x y : ℕ × E). (x.0 == y.0) && F x.1 y.1}
    (decides_pair (λ (a b : ℕ). a == b) F Decides-eqb decides) p.parts q.parts r is in (
      λ e. λ i. record { parts = parts.0 e i; last = last i },
      λ e. parts.1 (ap (λ (s : Shown E). s.parts) e),
    )

same_number : (a b : SymEvent) → ghosts.eq a b ≡ true → a ≡ b
same_number (number.RamRead a) (number.RamRead b) e = grind rules
same_number (number.EncRead a) (number.EncRead b) e = grind rules
same_number (number.EncWrite a) (number.EncWrite b) e = grind rules
same_number (number.Oram a) (number.Oram b) e = grind rules
same_number a b e = absurd (false≢true e)

decides_number : (a b : SymEvent) → Decides (ghosts.eq a b) (a ≡ b)
decides_number a b = (same_number a b, λ e. subst (λ (x : SymEvent). ghosts.eq a x ≡ true) e (laws-law.refl a))

-- the comparison of two patterns over numbers decides whether they are equal
pub decides_numbers : (p q : Shown SymEvent) (r : Bool) → p.last ≡ q.last
    → r ≡ pointwise (λ x y. (x.0 == y.0) && ghosts.eq x.1 y.1) p.parts q.parts → Decides r (p ≡ q)
decides_numbers p q r last is = decides_parts ghosts.eq decides_number p q r last is
