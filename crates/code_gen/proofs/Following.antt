-- What code does beside statements, one stretch after another: the cycles that they take, and the turns that they use.
use Rattle.std.proofs.Common.{◌≡◌, ℕ, ◌+◌, ◌*◌, ◌≤◌, Bool, List, [], ◌++◌, length, Option, Some, None, refl, sym, ap, ◌∙◌, subst, arith, add-mul, mul-le-mul_left, mul-le-mul_right, mul-add, mul-one}
use Rattle.std.specs.Option.{option_and_then}
use Rattle.std.proofs.lemmas.List.{length-append}
use Rattle.std.proofs.lemmas.Option.{none-some}
use Rattle.gr_word.specs.Prelude.{compared}
use Rattle.gr_word.specs.declared.operations.Cmp.{Cmp}
use Rattle.lt_isa.specs.declared.instructions.Instr.{Instr}
use Rattle.lt_isa.specs.Prelude.{Parts, IsInRange, State, Observed, register, IsShaped, Here}
use Rattle.lt_isa.proofs.Stretches.{reaches-append, reaches-cycle}
use Rattle.stretches.specs.Prelude.{greatest_costs, Comes}
use Rattle.stretches.proofs.Standing.{greatest_costs-append}
use Rattle.src_tree.specs.Prelude.{Store, Left, Execution, in_turn}
use Rattle.src_tree.proofs.Loops.{left}
use Rattle.scalar_ranges.specs.Prelude.{AreWithin, Ranges}
use Rattle.block_cache_gen.specs.Prelude.{Setting, FitsHomes, StandsFor, Assigns}
use Rattle.block_cache_gen.proofs.Stands.{stands-like}
use Rattle.code_gen.specs.Prelude.{Finishes, Lasts, Follows}

-- what a number of turns costs: each once more than they are
once : (c u : ℕ) → c ≤ c * (u + 1)
once c u = let more : c * 1 ≤ c * (u + 1) = mul-le-mul_left c (omega arith) in omega (arith, more, mul-one c)

pub costs-behind : (c d u : ℕ) → c + d * (u + 1) ≤ (c + d) * (u + 1)
costs-behind c d u = omega (arith, once c u, add-mul c d (u + 1))

pub costs-append : (c d u v : ℕ) → c * (u + 1) + d * (v + 1) ≤ (c + d) * (u + v + 1)
costs-append c d u v =
    let first : c * (u + 1) ≤ c * (u + v + 1) = mul-le-mul_left c (omega arith) in
    let second : d * (v + 1) ≤ d * (u + v + 1) = mul-le-mul_left d (omega arith) in
    omega (arith, first, second, add-mul c d (u + v + 1))

-- a turn costs c, then its body, and then what is left of the loop
pub costs-turn : (c d u v : ℕ) → c + (d * (u + 1) + (c + d) * (v + 1)) ≤ (c + d) * (u + v + 1 + 1)
costs-turn c d u v =
    let sum : (c + d) * ((u + 1) + (v + 1)) ≡ (c + d) * (u + 1) + (c + d) * (v + 1) = mul-add (c + d) (u + 1) (v + 1) in
    let same : (c + d) * ((u + 1) + (v + 1)) ≡ (c + d) * (u + v + 1 + 1) = ap (λ n. (c + d) * n) (omega arith) in
    omega (arith, sum, same, costs-behind c d u)

-- a guard was tested: registers 0 and 1 compare as it says
pub record Tested (f : Setting) (cmp : Cmp) (holds : Store → Bool) (store : Store) (t : State) : Type 0 where
  pub says : compared cmp (register t 0) (register t 1) ≡ holds store
  pub stands : StandsFor f t store

-- code at a place tests a guard of a store within what is known
pub record Tests (o : Parts) (f : Setting) (known : Ranges) (place : ℕ) (code : List Instr) (cmp : Cmp)
    (holds : Store → Bool) : Type 0 where
  pub tested : (s : State) (store : Store) → IsShaped o s → s.place ≡ place → StandsFor f s store → FitsHomes f store
      → AreWithin known store → (shown : List Observed)
      × Comes o s shown (place + length code) (greatest_costs o code) (Tested f cmp holds store)

-- code at a place turns one store into another, for any number of iterations left
pub record Changes (o : Parts) (f : Setting) (known : Ranges) (place : ℕ) (code : List Instr)
    (after : Store → Store) : Type 0 where
  pub changed : (s : State) (store : Store) → IsShaped o s → s.place ≡ place → StandsFor f s store → FitsHomes f store
      → AreWithin known store → (shown : List Observed)
      × Comes o s shown (place + length code) (greatest_costs o code) (Assigns f (after store))

-- whether a state stands for a store depends only on its slots and banks
pub stands-moved : {f : Setting} {s : State} {store : Store} (place cycle : ℕ) → StandsFor f s store
    → StandsFor f (record s { place = place; cycle = cycle }) store
stands-moved {f = f} {s = s} {store = store} place cycle stands =
    stands-like f s (record s { place = place; cycle = cycle }) store refl refl (λ r high. refl) stands

-- a stretch, and then a run that lasts
pub lasts-behind : {o : Parts} {s : State} {es : List Observed} {p c turns : ℕ} {P : State → Type 0}
    → IsInRange o → IsShaped o s → (first : Comes o s es p c P) → Lasts o first.end turns → Lasts o s turns
lasts-behind {o = o} {s = s} in_range shaped first rest =
    let later = reaches-cycle o in_range s first.events first.end first.reaches shaped in
    record {
      end = rest.end;
      events = first.events ++ rest.events;
      reaches = reaches-append first.reaches rest.reaches;
      late = omega (arith, rest.late, later);
    }

module _ {o : Parts} {f : Setting} where
  -- the same said in other words: an equal place, and more cycles
  pub finishes-weaker : {s : State} {turns : ℕ} {l : Left} {p c : ℕ} (q d : ℕ)
      → Finishes o f s turns l p c → p ≡ q → c ≤ d → Finishes o f s turns l q d
  finishes-weaker {s = s} {c = c} q d run same more =
      let grown : c * (run.used + 1) ≤ d * (run.used + 1) = mul-le-mul_right (run.used + 1) more in
      record {
        end = run.end;
        events = run.events;
        reaches = run.reaches;
        comes = run.comes ∙ same;
        used = run.used;
        counts = run.counts;
        since = run.since;
        by = omega (arith, run.by, grown);
        shaped = run.shaped;
        stands = run.stands;
        fits = run.fits;
      }

  -- statements, and others from wherever the first ones end
  pub finishes-append : {s : State} {turns p c : ℕ} (between l : Left) (q d : ℕ)
      (one : Finishes o f s turns between p c)
      → Finishes o f one.end between.turns l q d → Finishes o f s turns l q (c + d)
  finishes-append {s = s} {c = c} between l q d one two = record {
    end = two.end;
    events = one.events ++ two.events;
    reaches = reaches-append one.reaches two.reaches;
    comes = two.comes;
    used = one.used + two.used;
    counts = omega (arith, one.counts, two.counts);
    since = omega (arith, one.since, two.since);
    by = omega (arith, one.by, two.by, costs-append c d one.used two.used);
    shaped = two.shaped;
    stands = two.stands;
    fits = two.fits;
  }

  pub lasts-append : {s : State} {turns p c : ℕ} (between : Left) (one : Finishes o f s turns between p c)
      → Lasts o one.end between.turns → Lasts o s turns
  lasts-append between one rest = record {
    end = rest.end;
    events = one.events ++ rest.events;
    reaches = reaches-append one.reaches rest.reaches;
    late = omega (arith, one.counts, one.since, rest.late);
  }

  -- a stretch that leaves a store and uses no turns
  pub finishes-stretch : {s : State} {p c : ℕ} {es : List Observed} {P : State → Type 0} (store : Store) (turns : ℕ)
      → IsInRange o → IsShaped o s → (run : Comes o s es p c P) → StandsFor f run.end store → FitsHomes f store
      → Finishes o f s turns (left store turns) p c
  finishes-stretch {s = s} {c = c} store turns in_range shaped run stands fits =
      let later = reaches-cycle o in_range s run.events run.end run.reaches shaped in
      record {
        end = run.end;
        events = run.events;
        reaches = run.reaches;
        comes = run.comes;
        used = 0;
        counts = omega arith;
        since = omega (arith, later);
        by = omega (arith, run.by, once c 0);
        shaped = run.shaped;
        stands = stands;
        fits = fits;
      }

  -- and code after statements that leaves the store
  pub finishes-then : {s : State} {turns p c : ℕ} {es : List Observed} (l : Left) (q d : ℕ)
      (one : Finishes o f s turns l p c)
      → IsInRange o → Comes o one.end es q d (λ t. StandsFor f t l.store) → Finishes o f s turns l q (c + d)
  finishes-then l q d one in_range rest =
      finishes-append l l q d one (finishes-stretch l.store l.turns in_range one.shaped rest rest.holds one.fits)

  -- a stretch, and statements from wherever it ends
  pub finishes-behind : {s : State} {es : List Observed} {p c turns : ℕ} {P : State → Type 0} (l : Left) (q d : ℕ)
      → IsInRange o → IsShaped o s → (first : Comes o s es p c P) → Finishes o f first.end turns l q d
      → Finishes o f s turns l q (c + d)
  finishes-behind {s = s} {c = c} l q d in_range shaped first rest =
      let later = reaches-cycle o in_range s first.events first.end first.reaches shaped in
      record {
        end = rest.end;
        events = first.events ++ rest.events;
        reaches = reaches-append first.reaches rest.reaches;
        comes = rest.comes;
        used = rest.used;
        counts = rest.counts;
        since = omega (arith, rest.since, later);
        by = omega (arith, first.by, rest.by, costs-behind c d rest.used);
        shaped = rest.shaped;
        stands = rest.stands;
        fits = rest.fits;
      }

  -- no statements, and no code
  pub follows-none : {known : Ranges} (p : ℕ) → Follows o f known p [] (λ before. Some before)
  follows-none p = record {
    done = λ s store turns l shaped place stands fits within is.
        let same : left store turns ≡ l = cc in
        subst (λ l. Finishes o f s turns l (p + 0) 0) same
        (record {
          end = s;
          events = [];
          reaches = Here s;
          comes = omega (arith, place);
          used = 0;
          counts = omega arith;
          since = omega arith;
          by = omega arith;
          shaped = shaped;
          stands = stands;
          fits = fits;
        });
    spent = λ s store turns shaped place stands fits within is. absurd (cc);
  }

  -- what changes the store and uses no turns
  pub follows-change : {known : Ranges} (p : ℕ) (code : List Instr) (after : Store → Store) (run : Execution)
      → IsInRange o → ((store : Store) (turns : ℕ) → run (left store turns) ≡ Some (left (after store) turns))
      → Changes o f known p code after → Follows o f known p code run
  follows-change p code after run in_range leaves changes = record {
    done = λ s store turns l shaped place stands fits within is.
        let same : left (after store) turns ≡ l = let found = leaves store turns in cc in
        let stretch = (changes.changed s store shaped place stands fits within).1 in
        subst (λ l. Finishes o f s turns l (p + length code) (greatest_costs o code)) same
        (finishes-stretch (after store) turns in_range shaped stretch stretch.holds.stands stretch.holds.fits);
    spent = λ s store turns shaped place stands fits within is.
        absurd (none-some (left (after store) turns) (sym is ∙ leaves store turns));
  }

-- Statements followed by others. If the first are done, the store is within what is known after them.
module _ {o : Parts} {f : Setting} {known next : Ranges} {p : ℕ} {xs ys : List Instr} {first second : Execution}
    (one : Follows o f known p xs first) (two : Follows o f next (p + length xs) ys second)
    (keeps : (before after : Left) → AreWithin known before.store → first before ≡ Some after
    → AreWithin next after.store) where
  both_done : (s : State) (store : Store) (turns : ℕ) (l : Left) → IsShaped o s → s.place ≡ p → StandsFor f s store
      → FitsHomes f store → AreWithin known store → (r : Option Left) → first (left store turns) ≡ r
      → option_and_then second r ≡ Some l
      → Finishes o f s turns l (p + length (xs ++ ys)) (greatest_costs o (xs ++ ys))
  both_done s store turns l shaped place stands fits within None is rest = absurd (none-some l rest)
  both_done s store turns l shaped place stands fits within (Some between) is rest =
      let a = one.done s store turns between shaped place stands fits within is in
      finishes-weaker (p + length (xs ++ ys)) (greatest_costs o (xs ++ ys))
      (finishes-append between l (p + length xs + length ys) (greatest_costs o ys) a
      (two.done a.end between.store between.turns l a.shaped a.comes a.stands a.fits
      (keeps (left store turns) between within is) rest))
      (omega (arith, length-append xs ys))
      (omega (arith, greatest_costs-append o xs ys))

  both_spent : (s : State) (store : Store) (turns : ℕ) → IsShaped o s → s.place ≡ p → StandsFor f s store
      → FitsHomes f store → AreWithin known store → (r : Option Left) → first (left store turns) ≡ r
      → option_and_then second r ≡ None → Lasts o s turns
  both_spent s store turns shaped place stands fits within None is rest =
      one.spent s store turns shaped place stands fits within is
  both_spent s store turns shaped place stands fits within (Some between) is rest =
      let a = one.done s store turns between shaped place stands fits within is in
      lasts-append between a
      (two.spent a.end between.store between.turns a.shaped a.comes a.stands a.fits
      (keeps (left store turns) between within is) rest)

  -- one piece is followed and then the other
  pub follows-append : Follows o f known p (xs ++ ys) (in_turn first second)
  follows-append = record {
    done = λ s store turns l shaped place stands fits within is.
        both_done s store turns l shaped place stands fits within (first (left store turns)) refl is;
    spent = λ s store turns shaped place stands fits within is.
        both_spent s store turns shaped place stands fits within (first (left store turns)) refl is;
  }
