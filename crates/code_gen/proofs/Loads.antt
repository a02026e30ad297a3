-- The beginning of a program's code: each slot is loaded with the block that it begins with.
use Rattle.std.proofs.Common.{◌≡◌, ◌≢◌, ℕ, suc, ◌+◌, ◌<◌, ◌≤◌, false, pos, List, [], ◌∷◌, ◌++◌, length, get_or, Option, Some, None, refl, sym, ap, ◌∙◌, subst, ⊎_elim, arith}
use Rattle.std.proofs.lemmas.Bool.{cases_eq}
use Rattle.std.proofs.lemmas.List.{get_or-set_same, get_or-set_other}
use Rattle.std.proofs.Math.Nat.{mod-eq_of_lt}
use Rattle.lt_isa.specs.declared.instructions.Instr.TheVariants.{Li, Ldb}
use Rattle.lt_isa.specs.Prelude.{Parts, blocks_of, IsInRange, State, Slot, Unbound, Bound, Observed, register, slot, block_at, read_event, block_named, loaded, passed, IsShaped}
use Rattle.stretches.specs.Prelude.{StandsAt, greatest_costs, RunsThrough}
use Rattle.stretches.proofs.RunningThrough.{runs-append}
use Rattle.stretches.proofs.Standing.{standing-head}
use Rattle.stretches.proofs.Coming.{comes-here, comes-weaker, comes-ldb, comes-li}
use Rattle.scratch_alloc.specs.declared.plans.Pin.{Pin}
use Rattle.block_cache_gen.specs.Prelude.{Setting, first_blocks}
use Rattle.code_gen.specs.Prelude.{load_code, each_slot}

-- the block that a number names
abbrev pub named : Parts → (bank block : ℕ) → ℕ
named o bank block = block_named o bank (pos block)

-- a number below the bank's blocks names the block of that number
pub named-is : (o : Parts) (bank block : ℕ) → block < blocks_of o bank → named o bank block ≡ block
named-is o bank block below = mod-eq_of_lt below

abbrev pub load_shown : Parts → State → Option Pin → List Observed
load_shown o s None = []
load_shown o s (Some p) =
    read_event p.bank (named o p.bank p.block) (block_at s p.bank (named o p.bank p.block)) ∷ []

abbrev pub loads_shown : Parts → State → List (Option Pin) → List Observed
loads_shown o s [] = []
loads_shown o s (block ∷ blocks) = load_shown o s block ++ loads_shown o s blocks

-- what the load of a block leaves in its slot
abbrev pub bound_by : Parts → State → Option Pin → Slot → Slot
bound_by o s None before = before
bound_by o s (Some p) before =
    Bound p.bank (named o p.bank p.block) (block_at s p.bank (named o p.bank p.block))

-- a state that is reached from another when the slots below one are loaded
pub record LoadedTo (o : Parts) (s : State) (blocks : List (Option Pin)) (k : ℕ) (t : State) : Type 0 where
  pub banks : t.banks ≡ s.banks
  pub loaded : (j : ℕ) → j < k → slot t j ≡ bound_by o s (get_or blocks j None) (slot s j)
  pub others : (j : ℕ) → k ≤ j → slot t j ≡ slot s j

-- the same when the number of the next block is in register 0
record IsNumbered (o : Parts) (s : State) (blocks : List (Option Pin)) (k block : ℕ) (t : State) : Type 0 where
  so_far : LoadedTo o s blocks k t
  number : register t 0 ≡ pos block

module _ (o : Parts) (fits : IsInRange o) (s : State) (blocks : List (Option Pin)) where
  -- one slot more
  one-more : (t u : State) (k : ℕ) (block : Option Pin) → LoadedTo o s blocks k t → get_or blocks k None ≡ block
      → u.banks ≡ t.banks → slot u k ≡ bound_by o s block (slot s k)
      → ((j : ℕ) → j ≢ k → slot u j ≡ slot t j) → LoadedTo o s blocks (k + 1) u
  one-more t u k block so_far is banks here elsewhere = record {
    banks = banks ∙ so_far.banks;
    loaded = λ j below.
        ⊎_elim
        (λ (same : j ≡ k).
        subst (λ n. slot u n ≡ bound_by o s (get_or blocks n None) (slot s n)) (sym same)
        (here ∙ ap (λ b. bound_by o s b (slot s k)) (sym is)))
        (λ (other : j ≢ k). elsewhere j other ∙ so_far.loaded j (omega (arith, below, other)))
        (cases_eq j k);
    others = λ j past.
        elsewhere j (λ (same : j ≡ k). absurd (omega (arith, past, same)))
        ∙ so_far.others j (omega (arith, past));
  }

  -- the number of a block
  comes-number : (t : State) → IsShaped o t → (k : ℕ) → LoadedTo o s blocks k t → (block : ℕ)
      → StandsAt o t.place (Li 0 (pos block) ∷ [])
      → RunsThrough o t (Li 0 (pos block) ∷ []) [] (IsNumbered o s blocks k block)
  comes-number t shaped k so_far block at =
      comes-weaker [] (t.place + 1) (greatest_costs o (Li 0 (pos block) ∷ [])) (IsNumbered o s blocks k block)
      (comes-li o fits t shaped 0 (pos block) (IsNumbered o s blocks k block)
      (standing-head (Li 0 (pos block)) [] at)
      (record {
        so_far = record { banks = so_far.banks; loaded = so_far.loaded; others = so_far.others };
        number = get_or-set_same t.registers 0 (pos block) (pos 0) (omega (arith, shaped.register_count));
      }))
      refl refl (omega arith) (λ u shape h. h)

  -- and its load
  comes-bound : (t : State) → IsShaped o t → (k : ℕ) → k < 8 → (p : Pin) → get_or blocks k None ≡ Some p
      → IsNumbered o s blocks k p.block t → StandsAt o t.place (Ldb k p.bank 0 ∷ [])
      → RunsThrough o t (Ldb k p.bank 0 ∷ []) (load_shown o s (Some p)) (LoadedTo o s blocks (k + 1))
  comes-bound t shaped k below p is before at =
      let b = p.bank in
      let a = named o b p.block in
      let found = Bound b a (block_at t b a) in
      let same : block_at t b a ≡ block_at s b a =
      ap (λ banks. block_at (record t { banks = banks }) b a) before.so_far.banks in
      let after = loaded (passed o (Ldb k b 0) false b (t.place + 1) t) k b a in
      let P = LoadedTo o s blocks (k + 1) in
      comes-weaker (load_shown o s (Some p)) (t.place + 1) (greatest_costs o (Ldb k b 0 ∷ [])) P
      (comes-ldb o fits t shaped k b 0 a P (standing-head (Ldb k b 0) [] at) (ap (block_named o b) before.number)
      (one-more t after k (Some p) before.so_far is refl
      (get_or-set_same t.slots k found Unbound (omega (arith, below, shaped.slot_count)) ∙ ap (Bound b a) same)
      (λ j other. get_or-set_other t.slots k j found Unbound other)))
      (ap (λ words. read_event b a words ∷ []) same) refl (omega arith) (λ u shape h. h)

  -- the code of one slot
  comes-load : (t : State) → IsShaped o t → (k : ℕ) → k < 8 → LoadedTo o s blocks k t → (block : Option Pin)
      → get_or blocks k None ≡ block → StandsAt o t.place (load_code k block)
      → RunsThrough o t (load_code k block) (load_shown o s block) (LoadedTo o s blocks (k + 1))
  comes-load t shaped k below so_far (Some p) is at =
      runs-append t (Li 0 (pos p.block) ∷ []) (Ldb k p.bank 0 ∷ []) [] (load_shown o s (Some p))
      (IsNumbered o s blocks k p.block) (LoadedTo o s blocks (k + 1)) at
      (λ here. comes-number t shaped k so_far p.block here)
      (λ u shape numbered there. comes-bound u shape k below p is numbered there)
  comes-load t shaped k below so_far None is at =
      comes-weaker [] (t.place + 0) 0 (LoadedTo o s blocks (k + 1))
      (comes-here t 0 (LoadedTo o s blocks (k + 1)) shaped
      (one-more t t k None so_far is refl (so_far.others k (omega arith)) (λ j other. refl)))
      refl (omega arith) (omega arith) (λ u shape h. h)

  -- the code of the slots from one on
  comes-loads : (more : List (Option Pin)) (k : ℕ) (t : State) → IsShaped o t → LoadedTo o s blocks k t
      → ((i : ℕ) → get_or more i None ≡ get_or blocks (k + i) None) → k + length more ≤ 8
      → StandsAt o t.place (each_slot load_code k more)
      → RunsThrough o t (each_slot load_code k more) (loads_shown o s more) (LoadedTo o s blocks (k + length more))
  comes-loads [] k t shaped so_far are few at =
      let same : k ≡ k + 0 = omega arith in
      comes-weaker [] (t.place + 0) 0 (LoadedTo o s blocks (k + 0))
      (comes-here t 0 (LoadedTo o s blocks (k + 0)) shaped (subst (λ n. LoadedTo o s blocks n t) same so_far))
      refl (omega arith) (omega arith) (λ u shape h. h)
  comes-loads (block ∷ more) k t shaped so_far are few at =
      let here : k + 0 ≡ k = omega arith in
      let end : k + 1 + length more ≡ k + length (block ∷ more) = omega arith in
      runs-append t (load_code k block) (each_slot load_code (k + 1) more) (load_shown o s block) (loads_shown o s more)
      (LoadedTo o s blocks (k + 1)) (LoadedTo o s blocks (k + length (block ∷ more))) at
      (λ first.
      comes-load t shaped k (omega (arith, few)) so_far block
      (sym (are 0 ∙ ap (λ n. get_or blocks n None) here)) first)
      (λ u shape stored there.
      subst
      (λ n. RunsThrough o u (each_slot load_code (k + 1) more) (loads_shown o s more) (LoadedTo o s blocks n)) end
      (comes-loads more (k + 1) u shape stored (next are) (omega (arith, few)) there))
    where
      next : ((i : ℕ) → get_or (block ∷ more) i None ≡ get_or blocks (k + i) None) → (i : ℕ)
          → get_or more i None ≡ get_or blocks (k + 1 + i) None
      next are i = let same : k + suc i ≡ k + 1 + i = omega arith in are (suc i) ∙ ap (λ n. get_or blocks n None) same

-- the code for slots loads all of them
pub comes-slots : (o : Parts) → IsInRange o → (s : State) → IsShaped o s → (f : Setting)
    → StandsAt o s.place (each_slot load_code 0 (first_blocks f))
    → RunsThrough o s (each_slot load_code 0 (first_blocks f)) (loads_shown o s (first_blocks f))
    (LoadedTo o s (first_blocks f) 8)
comes-slots o fits s shaped f at =
    comes-loads o fits s (first_blocks f) (first_blocks f) 0 s shaped
    (record { banks = refl; loaded = λ j below. absurd (omega (arith, below)); others = λ j past. refl })
    (λ i. let same : i ≡ 0 + i = omega arith in ap (λ n. get_or (first_blocks f) n None) same) (omega arith) at
