-- The relation between a store of the core and a memory: each variable in scope has its words at its place, and the words
-- of a hidden variable are kept where they were.
use Rattle.std.proofs.Common.{◌≡◌, ℕ, ◌+◌, ◌<◌, ◌≤◌, Bool, true, false, if◌then◌else◌, ℤ, List, [], ◌∷◌, length, set, refl, sym, ap, ◌∙◌, subst, ⊎_elim, arith, get_or-set_same, get_or-set_other}
use Rattle.std.specs.Prelude.{◌==◌}
use Rattle.std.proofs.Math.Path.{fun_ext}
use Rattle.std.proofs.lemmas.Bool.{cases_eq, eqb-true, eqb-false}
use Rattle.module_tree.specs.Memory.{Memory, with_words}
use Rattle.src_tree.specs.Prelude.{Store, words_of_number}
use Rattle.flat_tree.proofs.Agreeing.{read_here, read_other}
use Rattle.flat_tree.proofs.Writing.{written_twice}
use Rattle.flat_core.specs.Core.{place, InScope}

abbrev pub Stands : ℕ → List ℕ → List (List ℤ) → Memory → Store → Type 0
Stands all [] [] m store = (k : ℕ) → k < all → words_of_number store k ≡ m k
Stands all (j ∷ scope) (w ∷ hidden) m store =
    (words_of_number store (all + length scope) ≡ m j) × Stands all scope hidden (with_words m j w) store
Stands all _ _ m store = ⊥

module _ (all : ℕ) (P : ℕ → Type 0) where
  -- a variable that isn't the innermost local
  pub inner_scope : (scope : List ℕ) (k j : ℕ) → (k == j) ≡ false → InScope all P (j ∷ scope) k → InScope all P scope k
  inner_scope scope k j e is = ⊎_elim (λ (same : k ≡ j). absurd (eqb-false k j e same)) (λ x. x) is

  -- a place is below those of the locals further in
  pub place_below : (scope : List ℕ) (k : ℕ) → InScope all P scope k → place all scope k < all + length scope
  place_below [] k is = let lt = is.0 in omega (arith, lt)
  place_below (j ∷ scope) k is = by (k == j) refl (λ x. place_below scope k x)
    where
      by : (b : Bool) → (k == j) ≡ b → (InScope all P scope k → place all scope k < all + length scope)
          → (if b then all + length scope else place all scope k) < all + length (j ∷ scope)
      by true e rest = omega arith
      by false e rest =
          let below = rest (inner_scope scope k j e is) in
          omega (arith, below)

  -- the words of a variable
  pub words_stand : (scope : List ℕ) (hidden : List (List ℤ)) (m : Memory) (store : Store) → Stands all scope hidden m store
      → (k : ℕ) → InScope all P scope k → words_of_number store (place all scope k) ≡ m k
  words_stand [] [] m store s k is = s k is.0
  words_stand [] (w ∷ hidden) m store s k is = absurd s
  words_stand (j ∷ scope) [] m store s k is = absurd s
  words_stand (j ∷ scope) (w ∷ hidden) m store s k is =
      by (k == j) refl (λ x. words_stand scope hidden (with_words m j w) store s.1 k x)
    where
      by : (b : Bool) → (k == j) ≡ b
          → (InScope all P scope k → words_of_number store (place all scope k) ≡ with_words m j w k)
          → words_of_number store (if b then all + length scope else place all scope k) ≡ m k
      by true e rest = s.0 ∙ ap m (sym (eqb-true k j e))
      by false e rest = rest (inner_scope scope k j e is) ∙ read_other m j k w (eqb-false k j e)

-- a word after all places doesn't matter
pub stands_outside : (all : ℕ) (scope : List ℕ) (hidden : List (List ℤ)) (m : Memory) (store : Store) (p : ℕ) (ws : List ℤ)
    → all + length scope ≤ p → Stands all scope hidden m store → Stands all scope hidden m (set store p ws)
stands_outside all [] [] m store p ws le s =
    λ k lt. get_or-set_other store p k ws [] (λ same. omega (arith, same, le, lt)) ∙ s k lt
stands_outside all [] (w ∷ hidden) m store p ws le s = absurd s
stands_outside all (j ∷ scope) [] m store p ws le s = absurd s
stands_outside all (j ∷ scope) (w ∷ hidden) m store p ws le s = (
  get_or-set_other store p (all + length scope) ws [] (λ same. omega (arith, same, le)) ∙ s.0,
  stands_outside all scope hidden (with_words m j w) store p ws (omega (arith, le)) s.1,
)

-- two variables are written in any order
if_swapped : (b c : Bool) (v w x : List ℤ) → (b ≡ true → c ≡ true → ⊥)
    → (if b then v else if c then w else x) ≡ (if c then w else if b then v else x)
if_swapped true true v w x apart = absurd (apart refl refl)
if_swapped true false v w x apart = refl
if_swapped false c v w x apart = refl

swapped : (m : Memory) (k j : ℕ) (v w : List ℤ) → (k ≡ j → ⊥)
    → with_words (with_words m k v) j w ≡ with_words (with_words m j w) k v
swapped m k j v w ne =
    fun_ext (λ i. if_swapped (i == j) (i == k) w v (m i)
    (λ e f. ne (sym (eqb-true i k f) ∙ eqb-true i j e)))

-- a variable is written
pub written_stands : (all : ℕ) (P : ℕ → Type 0) (scope : List ℕ) (hidden : List (List ℤ)) (m : Memory) (store : Store)
    → all + length scope ≤ length store → Stands all scope hidden m store → (k : ℕ) → InScope all P scope k → (ws : List ℤ)
    → Stands all scope hidden (with_words m k ws) (set store (place all scope k) ws)
written_stands all P [] [] m store room s k is ws = λ j lt. ⊎_elim (same j) (other j lt) (cases_eq j k)
  where
    same : (j : ℕ) → j ≡ k → words_of_number (set store k ws) j ≡ with_words m k ws j
    same j e =
        let below = is.0 in
        ap (λ i. words_of_number (set store k ws) i) e
        ∙ get_or-set_same store k ws [] (omega (arith, room, below))
        ∙ sym (ap (λ i. with_words m k ws i) e ∙ read_here m k ws)

    other : (j : ℕ) → j < all → (j ≡ k → ⊥) → words_of_number (set store k ws) j ≡ with_words m k ws j
    other j lt ne = get_or-set_other store k j ws [] ne ∙ s j lt ∙ sym (read_other m k j ws ne)
written_stands all P [] (w ∷ hidden) m store room s k is ws = absurd s
written_stands all P (j ∷ scope) [] m store room s k is ws = absurd s
written_stands all P (j ∷ scope) (w ∷ hidden) m store room s k is ws =
    by (k == j) refl
    (λ inner. written_stands all P scope hidden (with_words m j w) store (omega (arith, room)) s.1 k inner ws)
  where
    by : (b : Bool) → (k == j) ≡ b
        → (InScope all P scope k
        → Stands all scope hidden (with_words (with_words m j w) k ws) (set store (place all scope k) ws))
        → Stands all (j ∷ scope) (w ∷ hidden) (with_words m k ws)
        (set store (if b then all + length scope else place all scope k) ws)
    by true e rest =
        let same : k ≡ j = eqb-true k j e in
        subst (λ i. Stands all (j ∷ scope) (w ∷ hidden) (with_words m i ws) (set store (all + length scope) ws)) (sym same) (
          get_or-set_same store (all + length scope) ws [] (omega (arith, room)) ∙ sym (read_here m j ws),
          subst (λ h. Stands all scope hidden h (set store (all + length scope) ws)) (sym (written_twice m j ws w))
              (stands_outside all scope hidden (with_words m j w) store (all + length scope) ws (omega arith) s.1),
        )
    by false e rest =
        let ne = eqb-false k j e in
        let inner = inner_scope all P scope k j e is in
        let below = place_below all P scope k inner in (
          get_or-set_other store (place all scope k) (all + length scope) ws []
              (λ same. omega (arith, same, below))
              ∙ s.0 ∙ sym (read_other m k j ws (λ same. ne (sym same))),
          subst (λ h. Stands all scope hidden h (set store (place all scope k) ws)) (sym (swapped m k j ws w ne))
              (rest inner),
        )
