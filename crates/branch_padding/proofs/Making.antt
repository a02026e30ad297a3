-- Pieces of code in sequence that each turn one store into another.
use Rattle.std.proofs.Common.{◌≡◌, ℕ, zero, suc, ◌+◌, List, [], ◌∷◌, ◌++◌, length, None, take, drop, refl, sym, subst, arith}
use Rattle.std.proofs.lemmas.List.{length-append}
use Rattle.lt_isa.specs.declared.instructions.Instr.{Instr}
use Rattle.lt_isa.specs.declared.instructions.Instr.TheVariants.{Nop}
use Rattle.lt_isa.specs.Prelude.{Parts, State, Observed, IsShaped, went_on}
use Rattle.stretches.specs.Prelude.{StandsAt, greatest_costs, RunsThrough}
use Rattle.stretches.proofs.Standing.{standing-first, standing-rest, standing-head, greatest_costs-append}
use Rattle.stretches.proofs.Coming.{comes-here, comes-step, comes-both, comes-weaker}
use Rattle.src_tree.specs.Prelude.{Store}
use Rattle.scalar_ranges.specs.Prelude.{AreWithin}
use Rattle.block_cache_gen.specs.Prelude.{Setting, Assigns, BeginsCode}
use Rattle.block_cache_gen.proofs.Stands.{stands-like}
use Rattle.branch_padding.specs.Prelude.{Makes, idle, in_a_row}

-- a change of a store keeps it within what is known
abbrev pub KeepsWithin : Setting → (Store → Store) → Type 0
KeepsWithin f after = (store : Store) → AreWithin f.ranges store → AreWithin f.ranges (after store)

-- the same object and the same homes, from another state on
pub begins-at : {o : Parts} {f : Setting} {store : Store} {s : State} {code : List Instr} (after : Store)
    (t : State) (more : List Instr)
    → BeginsCode o f store s code → AreWithin f.ranges after → IsShaped o t → Assigns f after t
    → StandsAt o t.place more
    → BeginsCode o f after t more
begins-at after t more b within shaped made at = record {
  in_range = b.in_range;
  homes = b.homes;
  fits = made.fits;
  within = within;
  shaped = shaped;
  stands = made.stands;
  code_stands = at;
}

-- at the start of a piece the machine represents the store
pub begun : {o : Parts} {f : Setting} {store : Store} {s : State} {code : List Instr} → BeginsCode o f store s code
    → Assigns f store s
begun b = record { stands = b.stands; fits = b.fits }

module _ (f : Setting) where
  -- no code leaves the store as it was
  pub makes-none : Makes f [] (λ store. store)
  makes-none = record {
    runs = λ o store s b. (
      [],
      comes-weaker [] (s.place + 0) 0 (Assigns f store) (comes-here s 0 (Assigns f store) b.shaped (begun b)) refl
          (omega arith)
          (omega arith) (λ t shape h. h),
    );
  }

  -- the same said in other words
  pub makes-same : (code : List Instr) (g h : Store → Store) → Makes f code g → ((store : Store) → g store ≡ h store)
      → Makes f code h
  makes-same code g h one same = record {
    runs = λ o store s b. subst
        (λ (after : Store). (shown : List Observed) × RunsThrough o s code shown (Assigns f after)) (same store)
        (one.runs o store s b);
  }

  -- one piece and then another
  pub makes-append : (xs ys : List Instr) (g h : Store → Store) → Makes f xs g → KeepsWithin f g → Makes f ys h
      → Makes f (xs ++ ys) (λ store. h (g store))
  makes-append xs ys g h one kept two = record {
    runs = λ o store s b.
        let first = one.runs o store s
        (begins-at store s xs b b.within b.shaped (begun b) (standing-first xs ys b.code_stands)) in
        let t = first.1.end in
        let at : StandsAt o t.place ys =
        subst (λ (p : ℕ). StandsAt o p ys) (sym first.1.comes) (standing-rest xs ys b.code_stands) in
        let second = two.runs o (g store) t
        (begins-at (g store) t ys b (kept store b.within) first.1.shaped first.1.holds at) in (
          first.0 ++ second.0,
          comes-weaker (first.0 ++ second.0) (s.place + length (xs ++ ys)) (greatest_costs o (xs ++ ys))
              (Assigns f (h (g store)))
              (comes-both second.0 first.1 second.1) refl (omega (arith, length-append xs ys, first.1.comes))
              (omega (arith, greatest_costs-append o xs ys)) (λ u shape made. made),
        );
  }

  -- instructions that do nothing
  makes-nop : Makes f (Nop ∷ []) (λ store. store)
  makes-nop = record {
    runs = λ o store s b. (
      [],
      comes-weaker [] (s.place + 1) (greatest_costs o (Nop ∷ [])) (Assigns f store)
          (comes-step o b.in_range s b.shaped Nop None (went_on o Nop s) (Assigns f store)
          (standing-head Nop [] b.code_stands) refl
          (record { stands = stands-like f s (went_on o Nop s) store refl refl (λ r high. refl) b.stands; fits = b.fits }))
          refl refl (omega arith) (λ t shape made. made),
    );
  }

  -- nor does code that does nothing change it
  pub makes-idle : (cycles : ℕ) → Makes f (idle cycles) (λ store. store)
  makes-idle zero = makes-none
  makes-idle (suc cycles) =
      makes-append (Nop ∷ []) (idle cycles) (λ store. store) (λ store. store) makes-nop (λ store are. are)
      (makes-idle cycles)

-- what is made of a store by one function after another
abbrev pub one_by_one : List (Store → Store) → Store → Store
one_by_one [] store = store
one_by_one (after ∷ rest) store = one_by_one rest (after store)

-- the first effects and then the rest are all
pub rest-behind : (k : ℕ) (afters : List (Store → Store)) (store : Store)
    → one_by_one (drop k afters) (one_by_one (take k afters) store) ≡ one_by_one afters store
rest-behind zero afters store = refl
rest-behind (suc k) [] store = refl
rest-behind (suc k) (after ∷ afters) store = rest-behind k afters (after store)

-- each piece makes one store of another, and keeps it within what is known
pub data EachMakes (f : Setting) : List (List Instr) → List (Store → Store) → Type 0 where
  NoneMakes : EachMakes f [] []
  OneMakes : (code : List Instr) (after : Store → Store) (codes : List (List Instr)) (afters : List (Store → Store))
      → Makes f code after → KeepsWithin f after → EachMakes f codes afters
      → EachMakes f (code ∷ codes) (after ∷ afters)

module _ (f : Setting) where
  -- so do all of them
  pub each-keeps : (codes : List (List Instr)) (afters : List (Store → Store)) → EachMakes f codes afters
      → KeepsWithin f (one_by_one afters)
  each-keeps codes afters NoneMakes store are = are
  each-keeps codes afters (OneMakes code after rest more one kept each) store are =
      each-keeps rest more each (after store) (kept store are)

  -- pieces in a row do one effect after another
  pub row-makes : (codes : List (List Instr)) (afters : List (Store → Store)) → EachMakes f codes afters
      → Makes f (in_a_row codes) (one_by_one afters)
  row-makes codes afters NoneMakes = makes-none f
  row-makes codes afters (OneMakes code after rest more one kept each) =
      makes-append f code (in_a_row rest) after (one_by_one more) one kept (row-makes rest more each)

  -- the first pieces do the first effects
  pub take-makes : (k : ℕ) (codes : List (List Instr)) (afters : List (Store → Store)) → EachMakes f codes afters
      → EachMakes f (take k codes) (take k afters)
  take-makes zero codes afters each = NoneMakes
  take-makes (suc k) codes afters NoneMakes = NoneMakes
  take-makes (suc k) codes afters (OneMakes code after rest more one kept each) =
      OneMakes code after (take k rest) (take k more) one kept (take-makes k rest more each)

  -- and the rest the rest
  pub drop-makes : (k : ℕ) (codes : List (List Instr)) (afters : List (Store → Store)) → EachMakes f codes afters
      → EachMakes f (drop k codes) (drop k afters)
  drop-makes zero codes afters each = each
  drop-makes (suc k) codes afters NoneMakes = NoneMakes
  drop-makes (suc k) codes afters (OneMakes code after rest more one kept each) = drop-makes k rest more each
