-- What the code of a loop does beside the loop, turn by turn: a turn costs a cycle at least.
use Rattle.std.proofs.Common.{◌≡◌, ℕ, zero, suc, ◌+◌, ◌-◌, ◌≤◌, Bool, true, false, cond, pos, negsuc, List, [], ◌∷◌, ◌++◌, length, Option, Some, None, refl, sym, ap, ◌∙◌, subst, ⊎_elim, arith, lt-ltb}
use Rattle.std.specs.Option.{option_and_then}
use Rattle.std.specs.Prelude.{slice_get}
use Rattle.std.proofs.lemmas.Bool.{cases_Bool}
use Rattle.std.proofs.lemmas.List.{length-append}
use Rattle.std.proofs.lemmas.Option.{none-some}
use Rattle.gr_word.specs.declared.operations.Cmp.{Cmp}
use Rattle.lt_isa.specs.declared.instructions.Instr.{Instr}
use Rattle.lt_isa.specs.declared.instructions.Instr.TheVariants.{Jmp, Br}
use Rattle.lt_isa.specs.Prelude.{Parts, IsInRange, State, Observed, greatest_cost, target_of, IsShaped, Here}
use Rattle.lt_isa.proofs.Stretches.{reaches-append, reaches-cycle}
use Rattle.stretches.specs.Prelude.{StandsAt, greatest_costs, Comes}
use Rattle.stretches.proofs.Standing.{standing-first, standing-rest, standing-head, standing-tail, greatest_costs-append}
use Rattle.stretches.proofs.Coming.{comes-on, comes-weaker, comes-jmp, comes-br_taken, comes-br_on}
use Rattle.src_tree.specs.Prelude.{Store, Left, Execution, guard_holds, loop, run_of_block, Test, Block}
use Rattle.src_tree.proofs.Loops.{TurnsFall, left, block_falls, loop_ends, loop_spent, loop_again}
use Rattle.scalar_ranges.specs.Prelude.{Again, AtOnce, Enters, Returns, forgotten_block, inside, AreWithin, Ranges}
use Rattle.scalar_ranges.proofs.Counting.{inside-within, returned-forgotten}
use Rattle.block_cache_gen.specs.Prelude.{Setting, FitsHomes, StandsFor}
use Rattle.code_gen.specs.Prelude.{Finishes, Lasts, Follows, loop_code}
use Rattle.code_gen.proofs.Following.{Tested, Tests, stands-moved, costs-turn, finishes-weaker, finishes-stretch, finishes-behind, lasts-append, lasts-behind}

-- at least one cycle was taken to a state that represents a store
pub record TakesTurn (f : Setting) (store : Store) (s t : State) : Type 0 where
  pub later : s.cycle + 1 ≤ t.cycle
  pub stands : StandsFor f t store

-- an offset to a place before
pub target-back : (o : Parts) (place n to : ℕ) → to + (n + 1) ≡ place → target_of o place (negsuc n) ≡ to
target-back o place n to same =
    ap (λ b. cond b (place - (n + 1)) (length o.code)) (lt-ltb n place (omega arith)) ∙ omega arith

-- the parts of a loop are in its code
pub standing-loop_body : {o : Parts} {p : ℕ} (guard : List Instr) (cmp : Cmp) (body : List Instr)
    → StandsAt o p (loop_code guard cmp body) → StandsAt o (p + 1) body
standing-loop_body guard cmp body at =
    let back = Br cmp 0 1 (negsuc ((length body + length guard) - 1)) in
    standing-first body (guard ++ back ∷ [])
    (standing-tail (Jmp (pos (length body + 1))) (body ++ (guard ++ back ∷ [])) at)

-- the guard of a loop follows its body
pub standing-loop_guard : {o : Parts} {p : ℕ} (guard : List Instr) (cmp : Cmp) (body : List Instr)
    → StandsAt o p (loop_code guard cmp body) → StandsAt o (p + 1 + length body) guard
standing-loop_guard guard cmp body at =
    let back = Br cmp 0 1 (negsuc ((length body + length guard) - 1)) in
    standing-first guard (back ∷ [])
    (standing-rest body (guard ++ back ∷ [])
    (standing-tail (Jmp (pos (length body + 1))) (body ++ (guard ++ back ∷ [])) at))

-- one turn: the guard, the branch to the body, the body, and what is left of the loop
module _ {o : Parts} {f : Setting} {s : State} {store : Store} {es fs : List Observed} {b c p q : ℕ}
    {P : State → Type 0} (fits : IsInRange o) (shaped : IsShaped o s) (first : Comes o s es p b P)
    (second : Comes o first.end fs q c (TakesTurn f store first.end)) where
  pub finishes-turn : {turns r d : ℕ} (between l : Left) (place : ℕ) (one : Finishes o f second.end turns between r d)
      → Finishes o f one.end between.turns l place (b + c + d) → Finishes o f s (suc turns) l place (b + c + d)
  finishes-turn {d = d} between l place one rest =
      let later = reaches-cycle o fits s first.events first.end first.reaches shaped in
      record {
        end = rest.end;
        events = first.events ++ (second.events ++ (one.events ++ rest.events));
        reaches =
            reaches-append first.reaches (reaches-append second.reaches (reaches-append one.reaches rest.reaches));
        comes = rest.comes;
        used = one.used + rest.used + 1;
        counts = omega (arith, one.counts, rest.counts);
        since = omega (arith, later, second.holds.later, one.since, rest.since);
        by = omega (arith, first.by, second.by, one.by, rest.by, costs-turn (b + c) d one.used rest.used);
        shaped = rest.shaped;
        stands = rest.stands;
        fits = rest.fits;
      }

  pub lasts-turn : {turns : ℕ} → Lasts o second.end turns → Lasts o s (suc turns)
  lasts-turn rest =
      let later = reaches-cycle o fits s first.events first.end first.reaches shaped in
      record {
        end = rest.end;
        events = first.events ++ (second.events ++ rest.events);
        reaches = reaches-append first.reaches (reaches-append second.reaches rest.reaches);
        late = omega (arith, later, second.holds.later, rest.late);
      }

-- A loop whose guard takes an instruction at least. The guard is tested within what is known before the loop and isn't
-- assigned in it, and the body is followed within what is known inside the loop.
module _ (o : Parts) (fits : IsInRange o) (f : Setting) (known : Ranges) (p : ℕ) (guard body : List Instr) (t : Test)
    (a : Block) (some : 1 ≤ length guard) (at : StandsAt o p (loop_code guard t.cmp body))
    (tests : Tests o f (forgotten_block f.decls known a) (p + 1 + length body) guard t.cmp
    (λ store. guard_holds f.decls store t))
    (follows : Follows o f (inside f.decls known t a) (p + 1) body (run_of_block f.decls a)) where
  abbrev cmp : Cmp
  cmp = t.cmp

  abbrev holds : Store → Bool
  holds store = guard_holds f.decls store t

  abbrev run : Execution
  run = run_of_block f.decls a

  falls : TurnsFall run
  falls = block_falls f.decls a

  abbrev back : Instr
  back = Br cmp 0 1 (negsuc ((length body + length guard) - 1))

  -- the places of the guard, the branch after it, and the end
  abbrev head : ℕ
  head = p + 1 + length body

  abbrev turn : ℕ
  turn = p + 1 + length body + length guard

  abbrev behind : ℕ
  behind = p + length (loop_code guard cmp body)

  -- what a turn costs
  abbrev each : ℕ
  each = greatest_costs o guard + greatest_cost o back + greatest_costs o body

  rest_at : StandsAt o (p + 1) (body ++ (guard ++ back ∷ []))
  rest_at = standing-tail (Jmp (pos (length body + 1))) (body ++ (guard ++ back ∷ [])) at

  back_at : slice_get o.code turn ≡ Some back
  back_at = standing-head back [] (standing-rest guard (back ∷ []) (standing-rest body (guard ++ back ∷ []) rest_at))

  end_is : turn + 1 ≡ behind
  end_is =
      omega (arith, length-append body (guard ++ back ∷ []), length-append guard (back ∷ []))

  cost_is : greatest_cost o (Jmp (pos (length body + 1))) + each ≤ greatest_costs o (loop_code guard cmp body)
  cost_is =
      omega (arith, greatest_costs-append o body (guard ++ back ∷ []), greatest_costs-append o guard (back ∷ []))

  -- at the branch after the guard
  branch_back : (t : State) (store : Store)
      → IsShaped o t → t.place ≡ turn → Tested f cmp holds store t → holds store ≡ true
      → Comes o t [] (p + 1) (greatest_cost o back) (TakesTurn f store t)
  branch_back t store shaped place was e =
      let to = negsuc ((length body + length guard) - 1) in
      let least = fits.profile.taken.0 in
      comes-weaker [] (p + 1) (greatest_cost o back) (TakesTurn f store t)
      (comes-br_taken o fits t shaped cmp 0 1 to (TakesTurn f store t) (ap (slice_get o.code) place ∙ back_at)
      (was.says ∙ e)
      (record { later = omega (arith, least); stands = stands-moved _ _ was.stands }))
      refl
      (target-back o t.place ((length body + length guard) - 1) (p + 1) (omega (arith, place, some)))
      (omega arith)
      (λ u shape took. took)

  branch_on : (t : State) (store : Store)
      → IsShaped o t → t.place ≡ turn → Tested f cmp holds store t → holds store ≡ false
      → Comes o t [] behind (greatest_cost o back) (λ u. StandsFor f u store)
  branch_on t store shaped place was e =
      let to = negsuc ((length body + length guard) - 1) in
      comes-weaker [] behind (greatest_cost o back) (λ u. StandsFor f u store)
      (comes-br_on o fits t shaped cmp 0 1 to (λ u. StandsFor f u store) (ap (slice_get o.code) place ∙ back_at)
      (was.says ∙ e)
      (stands-moved _ _ was.stands))
      refl
      (omega (arith, place, end_is))
      (omega arith)
      (λ u shape stands. stands)

  -- From the state before the loop, what is known there holds.
  module _ (first : Left) (begins : AreWithin known first.store) where
    -- the states in which the run reaches the guard
    abbrev Returned : Left → Type 0
    Returned now = Returns f.decls t a first now

    at_guard : (now : Left) → Returned now → AreWithin (forgotten_block f.decls known a) now.store
    at_guard now returns = returned-forgotten f.decls known t a first now begins returns

    turned : (store : Store) (k : ℕ) → holds store ≡ true → Enters f.decls t (left store (suc k)) (left store k)
    turned store k e = record { holds = e; turns = refl; store = refl }

    in_body : (store : Store) (k : ℕ) → Returned (left store (suc k)) → holds store ≡ true
        → AreWithin (inside f.decls known t a) store
    in_body store k returns e =
        inside-within f.decls known t a first (left store (suc k)) (left store k) begins returns (turned store k e)

    -- What is done from a state at the guard.
    module _ (s : State) (store : Store) (shaped : IsShaped o s) (place : s.place ≡ head) (stands : StandsFor f s store)
        (has : FitsHomes f store) where
      ended : (turns : ℕ) (l : Left) → Returned (left store turns) → holds store ≡ false
          → loop holds run (left store turns) ≡ Some l → Finishes o f s turns l behind each
      ended turns l returns e is =
          let same : left store turns ≡ l = let ends = loop_ends holds run store turns e in cc in
          let (shown, first) = tests.tested s store shaped place stands has (at_guard (left store turns) returns) in
          let run = comes-on [] behind (greatest_cost o back) (λ u. StandsFor f u store) first
          (λ t shape at_turn was. branch_on t store shape at_turn was e) in
          subst (λ l. Finishes o f s turns l behind each) same
          (finishes-weaker behind each (finishes-stretch store turns fits shaped run run.holds has) refl (omega arith))

      -- from a state at the guard with no more turns than these, the rest of the loop is done, or lasts
      again : (k : ℕ) (l : Left) → Returned (left store (suc k)) → holds store ≡ true → (r : Option Left)
          → run (left store k) ≡ r → option_and_then (loop holds run) r ≡ Some l
          → ((t : State) (between : Left) → between.turns ≤ k → Returned between → IsShaped o t → t.place ≡ head
          → StandsFor f t between.store → FitsHomes f between.store → loop holds run between ≡ Some l
          → Finishes o f t between.turns l behind each) → Finishes o f s (suc k) l behind each
      again k l returns e None ran is rest = absurd (none-some l is)
      again k l returns e (Some between) ran is rest =
          let (shown, first) = tests.tested s store shaped place stands has
          (at_guard (left store (suc k)) returns) in
          let second = branch_back first.end store first.shaped first.comes first.holds e in
          let one = follows.done second.end store k between second.shaped second.comes second.holds.stands has
          (in_body store k returns e) ran in
          finishes-turn fits shaped first second between l behind one
          (rest one.end between (omega (arith, one.counts))
          (Again (left store (suc k)) (left store k) between returns (turned store k e) ran) one.shaped one.comes
          one.stands one.fits is)

      again_spent : (k : ℕ) → Returned (left store (suc k)) → holds store ≡ true → (r : Option Left)
          → run (left store k) ≡ r → option_and_then (loop holds run) r ≡ None
          → ((t : State) (between : Left) → between.turns ≤ k → Returned between → IsShaped o t → t.place ≡ head
          → StandsFor f t between.store → FitsHomes f between.store → loop holds run between ≡ None
          → Lasts o t between.turns) → Lasts o s (suc k)
      again_spent k returns e None ran is rest =
          let (shown, first) = tests.tested s store shaped place stands has
          (at_guard (left store (suc k)) returns) in
          let second = branch_back first.end store first.shaped first.comes first.holds e in
          lasts-turn fits shaped first second
          (follows.spent second.end store k second.shaped second.comes second.holds.stands has
          (in_body store k returns e) ran)
      again_spent k returns e (Some between) ran is rest =
          let (shown, first) = tests.tested s store shaped place stands has
          (at_guard (left store (suc k)) returns) in
          let second = branch_back first.end store first.shaped first.comes first.holds e in
          let one = follows.done second.end store k between second.shaped second.comes second.holds.stands has
          (in_body store k returns e) ran in
          lasts-turn fits shaped first second
          (lasts-append between one
          (rest one.end between (omega (arith, one.counts))
          (Again (left store (suc k)) (left store k) between returns (turned store k e) ran) one.shaped one.comes
          one.stands one.fits is))

      last_done : (l : Left) → Returned (left store 0) → loop holds run (left store 0) ≡ Some l
          → Finishes o f s 0 l behind each
      last_done l returns is =
          ⊎_elim (λ e. absurd (none-some l (sym (loop_spent holds run store e) ∙ is))) (λ e. ended 0 l returns e is)
          (cases_Bool (holds store))

      last_spent : Lasts o s 0
      last_spent = record { end = s; events = []; reaches = Here s; late = omega arith }

    from_guard : (n : ℕ) (s : State) (store : Store) (turns : ℕ) (l : Left) → turns ≤ n
        → Returned (left store turns) → IsShaped o s → s.place ≡ head → StandsFor f s store → FitsHomes f store
        → loop holds run (left store turns) ≡ Some l → Finishes o f s turns l behind each
    from_guard n s store zero l few returns shaped place stands has is =
        last_done s store shaped place stands has l returns is
    from_guard zero s store (suc k) l few returns shaped place stands has is = absurd (omega arith)
    from_guard (suc n) s store (suc k) l few returns shaped place stands has is =
        ⊎_elim
        (λ e.
        again s store shaped place stands has k l returns e (run (left store k)) refl
        (sym (loop_again holds run falls store k e) ∙ is)
        (λ t between fewer returns' shape at_head stands' has' is'.
        from_guard n t between.store between.turns l (omega arith) returns' shape at_head stands' has' is'))
        (λ e. ended s store shaped place stands has (suc k) l returns e is)
        (cases_Bool (holds store))

    lasts_from_guard : (n : ℕ) (s : State) (store : Store) (turns : ℕ) → turns ≤ n → Returned (left store turns)
        → IsShaped o s → s.place ≡ head → StandsFor f s store → FitsHomes f store
        → loop holds run (left store turns) ≡ None → Lasts o s turns
    lasts_from_guard n s store zero few returns shaped place stands has is =
        last_spent s store shaped place stands has
    lasts_from_guard zero s store (suc k) few returns shaped place stands has is = absurd (omega arith)
    lasts_from_guard (suc n) s store (suc k) few returns shaped place stands has is =
        ⊎_elim
        (λ e.
        again_spent s store shaped place stands has k returns e (run (left store k)) refl
        (sym (loop_again holds run falls store k e) ∙ is)
        (λ t between fewer returns' shape at_head stands' has' is'.
        lasts_from_guard n t between.store between.turns (omega arith) returns' shape at_head stands' has' is'))
        (λ e. absurd (none-some (left store (suc k)) (sym is ∙ loop_ends holds run store (suc k) e)))
        (cases_Bool (holds store))

  -- the jump to the guard
  jumped : (s : State) (store : Store) → IsShaped o s → s.place ≡ p → StandsFor f s store
      → Comes o s [] head (greatest_cost o (Jmp (pos (length body + 1)))) (λ t. StandsFor f t store)
  jumped s store shaped place stands =
      let to = pos (length body + 1) in
      comes-weaker [] head (greatest_cost o (Jmp to)) (λ t. StandsFor f t store)
      (comes-jmp o fits s shaped to (λ t. StandsFor f t store)
      (ap (slice_get o.code) place ∙ standing-head (Jmp to) (body ++ (guard ++ back ∷ [])) at)
      (stands-moved _ _ stands))
      refl (omega (arith, place)) (omega arith) (λ t shape stands'. stands')

  -- a loop is followed, turn by turn
  pub follows-loop : Follows o f known p (loop_code guard cmp body) (loop holds run)
  follows-loop = record {
    done = λ s store turns l shaped place stands has within is.
        let first = jumped s store shaped place stands in
        finishes-weaker behind (greatest_costs o (loop_code guard cmp body))
        (finishes-behind l behind each fits shaped first
        (from_guard (left store turns) within turns first.end store turns l (omega arith) AtOnce first.shaped
        first.comes first.holds has is))
        refl cost_is;
    spent = λ s store turns shaped place stands has within is.
        let first = jumped s store shaped place stands in
        lasts-behind fits shaped first
        (lasts_from_guard (left store turns) within turns first.end store turns (omega arith) AtOnce first.shaped
        first.comes first.holds has is);
  }
