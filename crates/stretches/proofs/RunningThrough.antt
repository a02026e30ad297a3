-- Runs through code: two parts in sequence, and the instructions that set a register.
use Rattle.std.proofs.Common.{◌≡◌, ℕ, ◌+◌, ◌<◌, false, ℤ, pos, List, [], ◌∷◌, ◌++◌, length, Some, refl, sym, ap, subst, arith}
use Rattle.std.specs.Prelude.{slice_get}
use Rattle.std.proofs.lemmas.List.{get_or-set_same, get_or-set_other, length-append}
use Rattle.gr_word.specs.Prelude.{applied}
use Rattle.gr_word.specs.declared.operations.Op.{Op}
use Rattle.lt_isa.specs.declared.instructions.Instr.{Instr}
use Rattle.lt_isa.specs.declared.instructions.Instr.TheVariants.{Li, Alu, Idb, Ldw}
use Rattle.lt_isa.specs.Prelude.{Parts, IsInRange, State, Bound, Observed, register, slot, word_in, set_register, greatest_cost, passed, word_named, IsShaped}
use Rattle.stretches.specs.Prelude.{StandsAt, greatest_costs, Comes, RunsThrough, Sets}
use Rattle.stretches.proofs.Standing.{standing-first, standing-rest, standing-head, standing-tail, greatest_costs-append}
use Rattle.stretches.proofs.Coming.{comes-on, comes-weaker, comes-li, comes-alu, comes-idb, comes-ldw}

-- two parts of code in sequence
pub runs-append : {o : Parts} (s : State) (xs ys : List Instr) (es fs : List Observed) (P Q : State → Type 0)
    → StandsAt o s.place (xs ++ ys) → (StandsAt o s.place xs → RunsThrough o s xs es P)
    → ((t : State) → IsShaped o t → P t → StandsAt o t.place ys → RunsThrough o t ys fs Q)
    → RunsThrough o s (xs ++ ys) (es ++ fs) Q
runs-append {o = o} s xs ys es fs P Q at first rest =
    let behind = s.place + length xs in
    comes-weaker (es ++ fs) (s.place + length (xs ++ ys)) (greatest_costs o (xs ++ ys)) Q
    (comes-on fs (behind + length ys) (greatest_costs o ys) Q (first (standing-first xs ys at))
    (λ t shaped comes holds.
    comes-weaker fs (behind + length ys) (greatest_costs o ys) Q
    (rest t shaped holds (subst (λ p. StandsAt o p ys) (sym comes) (standing-rest xs ys at)))
    refl (ap (λ p. p + length ys) comes) (omega arith) (λ u shape h. h)))
    refl (omega (arith, length-append xs ys)) (omega (arith, greatest_costs-append o xs ys)) (λ u shape h. h)

-- one instruction and then the rest
pub runs-cons : {o : Parts} (s : State) (i : Instr) (ys : List Instr) (es fs : List Observed) (P Q : State → Type 0)
    → StandsAt o s.place (i ∷ ys)
    → (slice_get o.code s.place ≡ Some i → Comes o s es (s.place + 1) (greatest_cost o i) P)
    → ((t : State) → IsShaped o t → P t → StandsAt o t.place ys → RunsThrough o t ys fs Q)
    → RunsThrough o s (i ∷ ys) (es ++ fs) Q
runs-cons {o = o} s i ys es fs P Q at first rest =
    comes-weaker (es ++ fs) (s.place + length (i ∷ ys)) (greatest_costs o (i ∷ ys)) Q
    (comes-on fs ((s.place + 1) + length ys) (greatest_costs o ys) Q (first (standing-head i ys at))
    (λ t shaped comes holds.
    comes-weaker fs ((s.place + 1) + length ys) (greatest_costs o ys) Q
    (rest t shaped holds (subst (λ p. StandsAt o p ys) (sym comes) (standing-tail i ys at)))
    refl (ap (λ p. p + length ys) comes) (omega arith) (λ u shape h. h)))
    refl (omega arith) (omega arith) (λ u shape h. h)

-- one instruction
pub runs-one : {o : Parts} (s : State) (i : Instr) (es : List Observed) (P : State → Type 0)
    → StandsAt o s.place (i ∷ [])
    → (slice_get o.code s.place ≡ Some i → Comes o s es (s.place + 1) (greatest_cost o i) P)
    → RunsThrough o s (i ∷ []) es P
runs-one {o = o} s i es P at first =
    comes-weaker es (s.place + 1) (greatest_costs o (i ∷ [])) P (first (standing-head i [] at)) refl refl
    (omega arith) (λ t shaped h. h)

-- a run through code of which less is stated
pub runs-weaker : {o : Parts} (s : State) (code : List Instr) (es fs : List Observed) (P Q : State → Type 0)
    → RunsThrough o s code es P → es ≡ fs → ((t : State) → IsShaped o t → P t → Q t) → RunsThrough o s code fs Q
runs-weaker {o = o} s code es fs P Q run same weaker =
    comes-weaker fs (s.place + length code) (greatest_costs o code) Q run same refl (omega arith) weaker

-- the state with another register
pub sets-register : (o : Parts) (s : State) (i : Instr) (r : ℕ) (word : ℤ) → IsShaped o s → r < 32
    → Sets s r word (set_register (passed o i false 0 (s.place + 1) s) r word)
sets-register o s i r word shaped below = record {
  value = get_or-set_same s.registers r word (pos 0) (omega (arith, shaped.register_count));
  others = λ q other. get_or-set_other s.registers r q word (pos 0) other;
  slots = refl;
  banks = refl;
}

module _ (o : Parts) (fits : IsInRange o) (s : State) (shaped : IsShaped o s) where
  -- a constant is written to a register
  pub sets-li : (rd : ℕ) (value : ℤ) → rd < 32 → slice_get o.code s.place ≡ Some (Li rd value)
      → Comes o s [] (s.place + 1) (greatest_cost o (Li rd value)) (Sets s rd value)
  sets-li rd value below at =
      comes-li o fits s shaped rd value (Sets s rd value) at (sets-register o s (Li rd value) rd value shaped below)

  -- the result of an operation is written to a register
  pub sets-alu : (op : Op) (rd ra rb : ℕ) (word : ℤ) → rd < 32 → applied op (register s ra) (register s rb) ≡ word
      → slice_get o.code s.place ≡ Some (Alu op rd ra rb)
      → Comes o s [] (s.place + 1) (greatest_cost o (Alu op rd ra rb)) (Sets s rd word)
  sets-alu op rd ra rb word below is at =
      comes-alu o fits s shaped op rd ra rb (Sets s rd word) at
      (subst (λ w. Sets s rd w (set_register (passed o (Alu op rd ra rb) false 0 (s.place + 1) s) rd
      (applied op (register s ra) (register s rb)))) is
      (sets-register o s (Alu op rd ra rb) rd (applied op (register s ra) (register s rb)) shaped below))

  -- the number of a slot's block is written to a register
  pub sets-idb : (rd k b a : ℕ) (words : List ℤ) → rd < 32 → slot s k ≡ Bound b a words
      → slice_get o.code s.place ≡ Some (Idb rd k)
      → Comes o s [] (s.place + 1) (greatest_cost o (Idb rd k)) (Sets s rd (pos a))
  sets-idb rd k b a words below bound at =
      comes-idb o fits s shaped rd k b a words (Sets s rd (pos a)) at bound
      (sets-register o s (Idb rd k) rd (pos a) shaped below)

  -- a word of a slot's block is written to a register
  pub sets-ldw : (rd k ro b a : ℕ) (words : List ℤ) (word : ℤ) → rd < 32 → slot s k ≡ Bound b a words
      → word_in words (word_named o (register s ro)) ≡ word
      → slice_get o.code s.place ≡ Some (Ldw rd k ro)
      → Comes o s [] (s.place + 1) (greatest_cost o (Ldw rd k ro)) (Sets s rd word)
  sets-ldw rd k ro b a words word below bound is at =
      comes-ldw o fits s shaped rd k ro b a words (Sets s rd word) at bound
      (subst (λ w. Sets s rd w
      (set_register (passed o (Ldw rd k ro) false 0 (s.place + 1) s) rd (word_in words (word_named o (register s ro)))))
      is
      (sets-register o s (Ldw rd k ro) rd (word_in words (word_named o (register s ro))) shaped below))
