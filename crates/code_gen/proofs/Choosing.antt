-- What the code of a choice with a public guard does beside the choice: if the guard fails, the branch jumps past the
-- first block, and a jump after the first block jumps past the second.
use Rattle.std.proofs.Common.{◌≡◌, ℕ, ◌+◌, ◌≤◌, Bool, true, false, if◌then◌else◌, not, pos, List, [], ◌∷◌, ◌++◌, length, Option, Some, None, refl, sym, ap, ◌∙◌, subst, ⊎_elim, arith}
use Rattle.std.specs.Prelude.{slice_get}
use Rattle.std.proofs.lemmas.Bool.{cases_Bool}
use Rattle.std.proofs.lemmas.List.{length-append}
use Rattle.std.proofs.lemmas.Option.{none-some}
use Rattle.gr_word.specs.declared.operations.Cmp.{Cmp}
use Rattle.lt_isa.specs.declared.instructions.Instr.{Instr}
use Rattle.lt_isa.specs.declared.instructions.Instr.TheVariants.{Jmp, Br}
use Rattle.lt_isa.specs.Prelude.{Parts, IsInRange, State, register, greatest_cost, IsShaped}
use Rattle.stretches.specs.Prelude.{StandsAt, greatest_costs, Comes}
use Rattle.stretches.proofs.Standing.{standing-first, standing-rest, standing-head, standing-tail, greatest_costs-append}
use Rattle.stretches.proofs.Coming.{comes-here, comes-weaker, comes-jmp, comes-br_taken, comes-br_on}
use Rattle.src_tree.specs.Prelude.{Store, Left, Execution}
use Rattle.src_tree.proofs.Loops.{left}
use Rattle.scalar_ranges.specs.Prelude.{AreWithin, Ranges}
use Rattle.block_cache_gen.specs.Prelude.{Setting, FitsHomes, StandsFor}
use Rattle.code_gen.specs.Prelude.{Finishes, Lasts, Follows, opposite, second_code, places_over, choice_code}
use Rattle.code_gen.proofs.Opposites.{compared-opposite}
use Rattle.code_gen.proofs.Following.{Tested, Tests, stands-moved, finishes-weaker, finishes-behind, finishes-then, lasts-behind}

-- empty code is at every place
pub standing-none : {o : Parts} {p : ℕ} → StandsAt o p []
standing-none = record { each = λ k i is. absurd (none-some i is) }

-- the second block, and the jump before it where it isn't empty
pub places-second : (first second : List Instr)
    → places_over first second + length second ≡ 1 + length first + length (second_code second)
places-second first [] = omega arith
places-second first (i ∷ code) = omega arith

pub costs-second : (o : Parts) (second : List Instr) → greatest_costs o second ≤ greatest_costs o (second_code second)
costs-second o [] = omega arith
costs-second o (i ∷ code) = omega arith

pub standing-second : {o : Parts} (p : ℕ) (first second : List Instr)
    → StandsAt o (p + 1 + length first) (second_code second) → StandsAt o (p + places_over first second) second
standing-second p first [] at = standing-none
standing-second {o = o} p first (i ∷ code) at =
    let place : p + 1 + length first + 1 ≡ p + (length first + 2) = omega arith in
    subst (λ q. StandsAt o q (i ∷ code)) place (standing-tail (Jmp (pos (length (i ∷ code) + 1))) (i ∷ code) at)

-- the parts of a choice are in its code
pub standing-choice_guard : {o : Parts} {p : ℕ} (guard : List Instr) (cmp : Cmp) (first second : List Instr)
    → StandsAt o p (choice_code guard cmp first second) → StandsAt o p guard
standing-choice_guard guard cmp first second at =
    standing-first guard (Br (opposite cmp) 0 1 (pos (places_over first second)) ∷ (first ++ second_code second)) at

blocks_at : {o : Parts} {p : ℕ} (guard : List Instr) (cmp : Cmp) (first second : List Instr)
    → StandsAt o p (choice_code guard cmp first second)
    → StandsAt o (p + length guard + 1) (first ++ second_code second)
blocks_at guard cmp first second at =
    let over = Br (opposite cmp) 0 1 (pos (places_over first second)) in
    standing-tail over (first ++ second_code second) (standing-rest guard (over ∷ (first ++ second_code second)) at)

-- the first block of a choice follows its guard and branch
pub standing-choice_first : {o : Parts} {p : ℕ} (guard : List Instr) (cmp : Cmp) (first second : List Instr)
    → StandsAt o p (choice_code guard cmp first second) → StandsAt o (p + length guard + 1) first
standing-choice_first guard cmp first second at =
    standing-first first (second_code second) (blocks_at guard cmp first second at)

-- and the second follows the jump
pub standing-choice_second : {o : Parts} {p : ℕ} (guard : List Instr) (cmp : Cmp) (first second : List Instr)
    → StandsAt o p (choice_code guard cmp first second)
    → StandsAt o (p + length guard + places_over first second) second
standing-choice_second {p = p} guard cmp first second at =
    standing-second (p + length guard) first second
    (standing-rest first (second_code second) (blocks_at guard cmp first second at))

-- from the end of the first block to the end of the choice
pub jumped-over : {o : Parts} {f : Setting}
    → IsInRange o → (second : List Instr) (t : State) (store : Store) → IsShaped o t
    → StandsAt o t.place (second_code second) → StandsFor f t store → Comes o t []
    (t.place + length (second_code second)) (greatest_costs o (second_code second)) (λ u. StandsFor f u store)
jumped-over {f = f} fits [] t store shaped at stands =
    comes-weaker [] (t.place + 0) 0 (λ u. StandsFor f u store)
    (comes-here t 0 (λ u. StandsFor f u store) shaped stands) refl (omega arith)
    (omega arith) (λ u shape h. h)
jumped-over {o = o} {f = f} fits (i ∷ code) t store shaped at stands =
    let to = pos (length (i ∷ code) + 1) in
    comes-weaker [] (t.place + length (Jmp to ∷ i ∷ code)) (greatest_costs o (Jmp to ∷ i ∷ code))
    (λ u. StandsFor f u store)
    (comes-jmp o fits t shaped to (λ u. StandsFor f u store) (standing-head (Jmp to) (i ∷ code) at)
    (stands-moved _ _ stands))
    refl (omega arith) (omega arith) (λ u shape h. h)

module _ (o : Parts) (fits : IsInRange o) (f : Setting) (known : Ranges) (p : ℕ) (guard first second : List Instr)
    (cmp : Cmp) (holds : Store → Bool)
    (one two : Execution) (at : StandsAt o p (choice_code guard cmp first second))
    (tests : Tests o f known p guard cmp holds) (follows : Follows o f known (p + length guard + 1) first one)
    (follows_second : Follows o f known (p + length guard + places_over first second) second two) where
  abbrev over : Instr
  over = Br (opposite cmp) 0 1 (pos (places_over first second))

  abbrev behind : ℕ
  behind = p + length (choice_code guard cmp first second)

  abbrev branch : ℕ
  branch = p + length guard

  over_at : slice_get o.code branch ≡ Some over
  over_at =
      standing-head over (first ++ second_code second) (standing-rest guard (over ∷ (first ++ second_code second)) at)

  jump_at : StandsAt o (branch + 1 + length first) (second_code second)
  jump_at = standing-rest first (second_code second) (blocks_at guard cmp first second at)

  end_is : branch + 1 + length first + length (second_code second) ≡ behind
  end_is =
      omega
      (arith, length-append guard (over ∷ (first ++ second_code second)), length-append first (second_code second))

  cost_is : greatest_costs o guard
      + (greatest_cost o over + (greatest_costs o first + greatest_costs o (second_code second)))
      ≡ greatest_costs o (choice_code guard cmp first second)
  cost_is =
      omega (
        arith,
        greatest_costs-append o guard (over ∷ (first ++ second_code second)),
        greatest_costs-append o first (second_code second),
      )

  -- at the branch after the guard
  branch_on : (t : State) (store : Store)
      → IsShaped o t → t.place ≡ branch → Tested f cmp holds store t → holds store ≡ true
      → Comes o t [] (branch + 1) (greatest_cost o over) (λ u. StandsFor f u store)
  branch_on t store shaped place was e =
      comes-weaker [] (branch + 1) (greatest_cost o over) (λ u. StandsFor f u store)
      (comes-br_on o fits t shaped (opposite cmp) 0 1 (pos (places_over first second)) (λ u. StandsFor f u store)
      (ap (slice_get o.code) place ∙ over_at)
      (compared-opposite cmp (register t 0) (register t 1) ∙ ap not (was.says ∙ e))
      (stands-moved _ _ was.stands))
      refl (omega (arith, place)) (omega arith) (λ u shape h. h)

  branch_over : (t : State) (store : Store)
      → IsShaped o t → t.place ≡ branch → Tested f cmp holds store t → holds store ≡ false
      → Comes o t [] (branch + places_over first second) (greatest_cost o over) (λ u. StandsFor f u store)
  branch_over t store shaped place was e =
      comes-weaker [] (branch + places_over first second) (greatest_cost o over) (λ u. StandsFor f u store)
      (comes-br_taken o fits t shaped (opposite cmp) 0 1 (pos (places_over first second)) (λ u. StandsFor f u store)
      (ap (slice_get o.code) place ∙ over_at)
      (compared-opposite cmp (register t 0) (register t 1) ∙ ap not (was.says ∙ e))
      (stands-moved _ _ was.stands))
      refl (omega (arith, place)) (omega arith) (λ u shape h. h)

  module _ (s : State) (store : Store) (turns : ℕ) (shaped : IsShaped o s) (place : s.place ≡ p)
      (stands : StandsFor f s store) (has : FitsHomes f store) (within : AreWithin known store) where
    first_done : (l : Left) → holds store ≡ true → one (left store turns) ≡ Some l
        → Finishes o f s turns l behind (greatest_costs o (choice_code guard cmp first second))
    first_done l e is =
        let (shown, tested) = tests.tested s store shaped place stands has within in
        let on = branch_on tested.end store tested.shaped tested.comes tested.holds e in
        let body = follows.done on.end store turns l on.shaped on.comes on.holds has within is in
        let jump =
        jumped-over {f = f} fits second body.end l.store body.shaped
        (subst (λ q. StandsAt o q (second_code second)) (sym body.comes) jump_at) body.stands in
        finishes-weaker behind (greatest_costs o (choice_code guard cmp first second))
        (finishes-behind l (body.end.place + length (second_code second))
        (greatest_cost o over + (greatest_costs o first + greatest_costs o (second_code second))) fits shaped tested
        (finishes-behind l (body.end.place + length (second_code second))
        (greatest_costs o first + greatest_costs o (second_code second)) fits tested.shaped on
        (finishes-then l (body.end.place + length (second_code second))
        (greatest_costs o (second_code second)) body fits jump)))
        (omega (arith, body.comes, end_is))
        (omega (arith, cost_is))

    second_done : (l : Left) → holds store ≡ false → two (left store turns) ≡ Some l
        → Finishes o f s turns l behind (greatest_costs o (choice_code guard cmp first second))
    second_done l e is =
        let (shown, tested) = tests.tested s store shaped place stands has within in
        let on = branch_over tested.end store tested.shaped tested.comes tested.holds e in
        let body = follows_second.done on.end store turns l on.shaped on.comes on.holds has within is in
        let last = branch + places_over first second + length second in
        finishes-weaker behind (greatest_costs o (choice_code guard cmp first second))
        (finishes-behind l last (greatest_cost o over + greatest_costs o second) fits shaped tested
        (finishes-behind l last (greatest_costs o second) fits tested.shaped on body))
        (omega (arith, places-second first second, end_is))
        (omega (arith, cost_is, costs-second o second))

    first_spent : holds store ≡ true → one (left store turns) ≡ None → Lasts o s turns
    first_spent e is =
        let (shown, tested) = tests.tested s store shaped place stands has within in
        let on = branch_on tested.end store tested.shaped tested.comes tested.holds e in
        lasts-behind fits shaped tested
        (lasts-behind fits tested.shaped on (follows.spent on.end store turns on.shaped on.comes on.holds has within is))

    second_spent : holds store ≡ false → two (left store turns) ≡ None → Lasts o s turns
    second_spent e is =
        let (shown, tested) = tests.tested s store shaped place stands has within in
        let on = branch_over tested.end store tested.shaped tested.comes tested.holds e in
        lasts-behind fits shaped tested
        (lasts-behind fits tested.shaped on
        (follows_second.spent on.end store turns on.shaped on.comes on.holds has within is))

  -- what is done by a guard that is known
  by_guard : (store : Store) (turns : ℕ) (b : Bool) (r : Option Left) → holds store ≡ b
      → (if holds store then one (left store turns) else two (left store turns)) ≡ r
      → (if b then one (left store turns) else two (left store turns)) ≡ r
  by_guard store turns b r e is = ap (λ c. if c then one (left store turns) else two (left store turns)) (sym e) ∙ is

  -- a choice is followed: its guard holds and the first block runs, or else the second
  pub follows-choice : Follows o f known p (choice_code guard cmp first second)
      (λ before. if holds before.store then one before else two before)
  follows-choice = record {
    done = λ s store turns l shaped place stands has within is.
        ⊎_elim
        (λ e. first_done s store turns shaped place stands has within l e (by_guard store turns true (Some l) e is))
        (λ e. second_done s store turns shaped place stands has within l e (by_guard store turns false (Some l) e is))
        (cases_Bool (holds store));
    spent = λ s store turns shaped place stands has within is.
        ⊎_elim
        (λ e. first_spent s store turns shaped place stands has within e (by_guard store turns true None e is))
        (λ e. second_spent s store turns shaped place stands has within e (by_guard store turns false None e is))
        (cases_Bool (holds store));
  }
