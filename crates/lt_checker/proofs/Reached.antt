-- How each place of public code is reached, and the places inside a region.
use Rattle.std.proofs.Common.{◌≡◌, ℕ, zero, suc, ◌+◌, ◌-◌, ◌<◌, ◌≤◌, Bool, refl, ap, ◌∙◌, subst, arith, add-one}
use Rattle.std.specs.Prelude.{if◌then◌else◌}
use Rattle.std.proofs.lemmas.Bool.{eq-eqb, ne_eqb}
use Rattle.lt_isa.specs.Prelude.{Parts}
use Rattle.trace_patterns.specs.Prelude.{Known, start_known}
use Rattle.lt_checker.specs.Prelude.{Joins, Arrival, Here, Inside, arrival_at, effect_from, reached_at}

-- the first place is reached with what is known at the start
pub reached_at-zero : (o : Parts) → reached_at o 0 ≡ Here start_known
unfolding reached_at
reached_at-zero o = refl

-- every other place is reached from the one before it
pub reached_at-next : (o : Parts) (p : ℕ) → reached_at o (p + 1) ≡ arrival_at (p + 1) (effect_from o p (reached_at o p))
unfolding reached_at
reached_at-next o p = rw add-one refl

-- a place inside a region isn't visited
pub effect_from-inside : (o : Parts) (p join : ℕ) (k : Known) → effect_from o p (Inside join k) ≡ Joins join k
unfolding effect_from
effect_from-inside o p join k = refl

arrival-before : (p join : ℕ) (k : Known) → p < join → arrival_at p (Joins join k) ≡ Inside join k
arrival-before p join k lt =
    ap (λ (b : Bool). if b then Here k else Inside join k) (ne_eqb p join (λ e. absurd (omega arith)))

arrival-join : (p join : ℕ) (k : Known) → p ≡ join → arrival_at p (Joins join k) ≡ Here k
arrival-join p join k e = ap (λ (b : Bool). if b then Here k else Inside join k) (eq-eqb p join e)

-- after a branch at p whose region joins
module _ (o : Parts) (p join : ℕ) (k : Known) (joins : effect_from o p (reached_at o p) ≡ Joins join k) where
  -- each place before the join is inside the region
  inside_by : (n : ℕ) → p + n + 1 < join → reached_at o (p + n + 1) ≡ Inside join k
  inside_by zero lt =
      subst (λ (q : ℕ). reached_at o q ≡ Inside join k) (omega arith)
      (reached_at-next o p ∙ ap (arrival_at (p + 1)) joins ∙ arrival-before (p + 1) join k (omega arith))
  inside_by (suc n) lt =
      let q = p + n + 1 in
      let before : reached_at o q ≡ Inside join k = inside_by n (omega arith) in
      subst (λ (r : ℕ). reached_at o r ≡ Inside join k) (omega arith)
      (reached_at-next o q ∙ ap (λ (a : Arrival). arrival_at (q + 1) (effect_from o q a)) before
      ∙ ap (arrival_at (q + 1)) (effect_from-inside o q join k) ∙ arrival-before (q + 1) join k (omega arith))

  -- each place between a branch and its join is inside the region
  pub reached-inside : (q : ℕ) → p < q → q < join → reached_at o q ≡ Inside join k
  reached-inside q after before =
      subst (λ (r : ℕ). reached_at o r ≡ Inside join k) (omega arith) (inside_by (q - p - 1) (omega arith))

  -- the result at each place from the branch to the join
  effect_inside : (q : ℕ) → p ≤ q → q < join → effect_from o q (reached_at o q) ≡ Joins join k
  effect_inside q low high = at (q - p) (omega arith)
    where
      at : (n : ℕ) → p + n ≡ q → effect_from o q (reached_at o q) ≡ Joins join k
      at zero e = subst (λ (r : ℕ). effect_from o r (reached_at o r) ≡ Joins join k) (omega arith) joins
      at (suc n) e = ap (effect_from o q) (reached-inside q (omega arith) high) ∙ effect_from-inside o q join k

  -- the join is reached with what is known there
  pub reached-join : p < join → reached_at o join ≡ Here k
  reached-join lt =
      let q = join - 1 in
      let next : q + 1 ≡ join = omega arith in
      subst (λ (r : ℕ). reached_at o r ≡ Here k) next
      (reached_at-next o q ∙ ap (arrival_at (q + 1)) (effect_inside q (omega arith) (omega arith))
      ∙ arrival-join (q + 1) join k next)
