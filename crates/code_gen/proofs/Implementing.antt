-- An object implements a program where its code is the program's, the code of the body follows the body's statements,
-- and the banks at the start and the outputs name the variables' words.
use Rattle.std.proofs.Common.{◌≡◌, ℕ, false, ◌+◌, ◌*◌, ◌<◌, ◌≤◌, ℤ, List, [], ◌∷◌, ◌++◌, length, append-nil, Option, Some, None, refl, sym, ap, ◌∙◌, subst, arith}
use Rattle.std.specs.Prelude.{slice_get}
use Rattle.std.specs.Option.{option_map}
use Rattle.std.proofs.lemmas.List.Elements.{Contains-append_right}
use Rattle.std.proofs.Math.Nat.{mul-le-mul_left, mul-le-mul_right}
use Rattle.gr_word.specs.Prelude.{FitsWants}
use Rattle.lt_isa.specs.declared.instructions.Instr.{Instr}
use Rattle.lt_isa.specs.declared.instructions.Instr.TheVariants.{Halt}
use Rattle.lt_isa.specs.Prelude.{Parts, IsInRange, State, Halted, Stops, step, step_start, passed, IsShaped, Stamped, stamped, seen_at, trace_from, final_from, HaltsAt, Reaches, FitsObject, start_state, final, outputs}
use Rattle.lt_isa.proofs.Steps.{step-at, step_start-at}
use Rattle.lt_isa.proofs.Starts.{IsShaped-start, place-start, cycle-start, slot-start}
use Rattle.lt_isa.proofs.Runs.{trace_from-stops}
use Rattle.lt_isa.proofs.Stretches.{below, reaches-append, reaches-shaped, trace_split, final_split-stops}
use Rattle.lt_isa.proofs.Ends.{final_halted}
use Rattle.stretches.specs.Prelude.{StandsAt, greatest_costs, Comes, RunsThrough}
use Rattle.stretches.proofs.Standing.{standing-first, standing-rest, standing-head, greatest_costs-append, standing-whole}
use Rattle.stretches.proofs.Coming.{comes-weaker}
use Rattle.stretches.proofs.RunningThrough.{runs-append}
use Rattle.lt_isa.proofs.Lasting.{lasting-no_halt}
use Rattle.src_tree.specs.Prelude.{Source, Store, Left, run_of_block, meaning, words_of_number, DeclaredOnce}
use Rattle.flow_types.specs.Prelude.{declared_wants}
use Rattle.scalar_ranges.specs.Prelude.{AreWithin}
use Rattle.held_registers.proofs.Sound.{nothing-sound}
use Rattle.block_cache_gen.specs.Prelude.{held_beginning, held_ending, HasSecretSlot, Setting, HasHomes, first_blocks, StandsFor, FitsHomes}
use Rattle.compiled_objects.specs.Prelude.{Implements, HasSymbols, by_name, at_start}
use Rattle.code_gen.specs.Prelude.{Padding, block_code, load_code, pin_store, each_slot, beginning, ending, program_code, Follows, Finishes, Lasts}
use Rattle.block_cache_gen.proofs.HeldBeginning.{unheld, runs-held_beginning}
use Rattle.code_gen.proofs.AtStart.{start-within}
use Rattle.code_gen.proofs.Loads.{LoadedTo, loads_shown, comes-slots}
use Rattle.code_gen.proofs.Started.{BanksHold, stands-started}
use Rattle.code_gen.proofs.Ended.{pins_shown, comes-ending}
use Rattle.code_gen.proofs.HeldEnding.{homes-with, runs-held_ending}

-- The inputs and the outputs of an object are the words of a program's variables, by the homes that its code is made
-- for.
pub record NamesWords (p : Source) (o : Parts) (f : Setting) : Type 0 where
  pub decls : f.decls ≡ p.decls
  pub symbols : HasSymbols p o
  pub fit : (store : Store) → FitsWants (declared_wants p.decls) store → FitsHomes f store
  pub some : (store : Store) → FitsWants (declared_wants p.decls) store → (k : ℕ) → k < length p.decls
      → 0 < length (words_of_number store k)
  pub inputs : (store : Store) → FitsWants (declared_wants p.decls) store → FitsObject o (by_name p o store)
  pub hold : (store : Store) → FitsWants (declared_wants p.decls) store
      → BanksHold f (start_state o (by_name p o store)) store
  pub tell : (u : State) (left : Store) → BanksHold f u left → FitsHomes f left → outputs o u ≡ by_name p o left

costs-bound : (a b e used n : ℕ) → used ≤ n → (a + b * (used + 1)) + e < (a + (b + (e + 1))) * (n + 1)
costs-bound a b e used n fewer =
    let first : b * (used + 1) ≤ b * (n + 1) = mul-le-mul_left b (omega arith) in
    let second : (a + (e + 1)) * 1 ≤ (a + (e + 1)) * (n + 1) = mul-le-mul_left (a + (e + 1)) (omega arith) in
    let split : (a + (b + (e + 1))) * (n + 1) ≡ (a + (e + 1)) * (n + 1) + b * (n + 1) = grind arith in
    omega (arith, first, second, split)

-- a run that halts below a cycle, and what it leaves
record HaltsBelow (o : Parts) (s : State) (n : ℕ) (P : State → Type 0) : Type 0 where
  last : State
  halt : State
  events : List Stamped
  reaches : Reaches o s events last
  stops : step o last ≡ Stops halt
  in_time : step_start o last < n
  leaves : P halt

module _ (o : Parts) (fits : IsInRange o) (s : State) (shaped : IsShaped o s) (n : ℕ) (P : State → Type 0)
    (run : HaltsBelow o s n P) where
  halts-within : (at : ℕ) × HaltsAt (trace_from o s n) at
  halts-within =
      let there = reaches-shaped o fits s run.events run.last run.reaches shaped in
      let shown = trace_split o fits s run.events run.last run.reaches shaped n
      ∙ ap (λ l. below n run.events ++ l) (trace_from-stops o fits run.last run.halt n there run.stops run.in_time) in (
        step_start o run.last,
        subst (λ es. HaltsAt es (step_start o run.last)) (sym shown)
            (Contains-append_right (below n run.events) (stamped (step_start o run.last) (Some Halted))
            (seen_at (step_start o run.last) Halted) (0, omega arith, refl)),
      )

  left-within : P (final_from o s n)
  left-within =
      subst P (sym (final_split-stops o fits s run.events run.last run.halt run.reaches shaped run.stops n
      run.in_time)) run.leaves

module _ (p : Source) (o : Parts) (fits : IsInRange o) (f : Setting) (homes : HasHomes o f)
    (once : DeclaredOnce f.decls) (secret_slot : HasSecretSlot f) (names : NamesWords p o f) (padded : Padding)
    (code_is : o.code ≡ program_code f padded p.body)
    (follows : Follows o f (at_start f).ranges (length (beginning f)) (block_code (at_start f) padded p.body)
    (run_of_block p.decls p.body)) where
  abbrev body : List Instr
  body = block_code (at_start f) padded p.body

  abbrev costs : ℕ
  costs = greatest_costs o o.code

  -- the stores at the end, of scalars and of blocks
  abbrev scalars : List Instr
  scalars = held_ending f

  abbrev stores : List Instr
  stores = each_slot pin_store 0 f.pins

  costs-are : costs
      ≡ greatest_costs o (beginning f)
      + (greatest_costs o body + ((greatest_costs o scalars + greatest_costs o stores) + 1))
  costs-are =
      ap (greatest_costs o) code_is
      ∙ greatest_costs-append o (beginning f) (body ++ ending f)
      ∙ ap (λ n. greatest_costs o (beginning f) + n)
      (let last : greatest_costs o (ending f) ≡ (greatest_costs o scalars + greatest_costs o stores) + 1 =
      omega (
        arith,
        greatest_costs-append o scalars (stores ++ Halt ∷ []),
        greatest_costs-append o stores (Halt ∷ []),
      ) in
      greatest_costs-append o body (ending f) ∙ ap (λ n. greatest_costs o body + n) last)

  whole : StandsAt o 0 (program_code f padded p.body)
  whole = standing-whole o (program_code f padded p.body) code_is

  ending-stands : StandsAt o (length (beginning f) + length body) (ending f)
  ending-stands =
      standing-rest body (ending f) (subst (λ n. StandsAt o n (body ++ ending f)) (omega arith)
      (standing-rest (beginning f) (body ++ ending f) whole))

  -- one run on a store
  module _ (store : Store) (given : FitsWants (declared_wants p.decls) store) where
    abbrev inputs : List (List ℤ)
    inputs = by_name p o store

    abbrev start : State
    start = start_state o inputs

    start-shaped : IsShaped o start
    start-shaped = IsShaped-start o inputs (names.inputs store given)

    -- it reaches the body
    pub comes-begun : Comes o start (loads_shown o start (first_blocks f)) (length (beginning f))
        (greatest_costs o (beginning f)) (λ t. StandsFor f t store)
    comes-begun =
        let slots = each_slot load_code 0 (first_blocks f) in
        let shown = loads_shown o start (first_blocks f) in
        let P : State → Type 0 = λ t. StandsFor f t store in
        comes-weaker shown (length (beginning f)) (greatest_costs o (beginning f)) P
        (runs-append start slots (held_beginning f) shown [] (LoadedTo o start (first_blocks f) 8) P
        (subst (λ n. StandsAt o n (beginning f)) (sym (place-start o inputs))
        (standing-first (beginning f) (body ++ ending f) whole))
        (λ here. comes-slots o fits start start-shaped f here)
        (λ t shape loaded there.
        runs-held_beginning o fits f homes once secret_slot store t shape
        (stands-started o f homes start t loaded store (names.hold store given) (slot-start o inputs 6)) there))
        (append-nil shown) (ap (λ n. n + length (beginning f)) (place-start o inputs) ∙ (omega arith)) (omega arith)
        (λ t shape stands. stands)

    -- if the body is done, it reaches the end of the body and the halt
    module _ (n : ℕ) (left : Left) (done : Finishes o f comes-begun.end n left (length (beginning f) + length body)
        (greatest_costs o body)) where
      at-end : StandsAt o done.end.place (ending f)
      at-end = subst (λ n. StandsAt o n (ending f)) (sym done.comes) ending-stands

      stored : RunsThrough o done.end scalars [] (λ u. StandsFor (unheld f) u left.store)
      stored =
          runs-held_ending o fits f homes once left.store done.fits done.end done.shaped done.stands
          (standing-first scalars (stores ++ Halt ∷ []) at-end)

      behind-scalars : StandsAt o stored.end.place (stores ++ Halt ∷ [])
      behind-scalars =
          subst (λ n. StandsAt o n (stores ++ Halt ∷ [])) (sym stored.comes)
          (standing-rest scalars (stores ++ Halt ∷ []) at-end)

      ended : RunsThrough o stored.end stores (pins_shown stored.end 0 f.pins) (λ u. BanksHold (unheld f) u left.store)
      ended =
          comes-ending o fits (unheld f) (homes-with [] (nothing-sound f.decls) homes) stored.end left.store stored.holds
          (λ x. refl) stored.shaped (standing-first stores (Halt ∷ []) behind-scalars)

      halt-there : slice_get o.code ended.end.place ≡ Some Halt
      halt-there =
          ap (slice_get o.code) ended.comes ∙ standing-head Halt [] (standing-rest stores (Halt ∷ []) behind-scalars)

      halts-below : HaltsBelow o start (costs * (n + 1)) (λ u. outputs o u ≡ by_name p o left.store)
      halts-below =
          let last = ended.end in
          let bound =
          costs-bound (greatest_costs o (beginning f)) (greatest_costs o body)
          (greatest_costs o scalars + greatest_costs o stores) done.used n (omega (arith, done.counts)) in
          let in_time : last.cycle < costs * (n + 1) =
          subst (λ c. last.cycle < c * (n + 1)) (sym costs-are)
          (omega (arith, bound, ended.by, stored.by, done.by, comes-begun.by, cycle-start o inputs)) in
          record {
            last = last;
            halt = passed o Halt false 0 last.place last;
            events = comes-begun.events ++ (done.events ++ (stored.events ++ ended.events));
            reaches =
                reaches-append comes-begun.reaches
                (reaches-append done.reaches (reaches-append stored.reaches ended.reaches));
            stops = step-at o last Halt halt-there;
            in_time = subst (λ c. c < costs * (n + 1)) (sym (step_start-at o last Halt halt-there)) in_time;
            leaves =
                names.tell (passed o Halt false 0 last.place last) left.store
                (record { words = ended.holds.words }) done.fits;
          }

    -- if it is spent, it hasn't halted
    module _ (n : ℕ) (spent : Lasts o comes-begun.end n) where
      spent-no_halt : (at : ℕ) → HaltsAt (trace_from o start n) at → ⊥
      spent-no_halt =
          lasting-no_halt o fits start start-shaped (comes-begun.events ++ spent.events) spent.end
          (reaches-append comes-begun.reaches spent.reaches) n (omega (arith, spent.late))

  -- what a program means, by what its block leaves
  left-means : (store : Store) (n : ℕ) (found : Option Left)
      → run_of_block p.decls p.body (record { store = store; turns = n }) ≡ found
      → meaning p store n ≡ option_map (λ (l : Left). l.store) found
  left-means store n found is = ap (option_map (λ (l : Left). l.store)) is

  -- nothing is known at the beginning
  begins-within : (store : Store) → FitsWants (declared_wants p.decls) store → AreWithin (at_start f).ranges store
  begins-within store given =
      start-within f store
      (λ k below. names.some store given k (subst (λ ds. k < length ds) names.decls below))

  finishes : (store : Store) (given : FitsWants (declared_wants p.decls) store) (n : ℕ) (left : Left)
      → run_of_block p.decls p.body (record { store = store; turns = n }) ≡ Some left
      → Finishes o f (comes-begun store given).end n left (length (beginning f) + length body) (greatest_costs o body)
  finishes store given n left done =
      let run = comes-begun store given in
      follows.done run.end store n left run.shaped run.comes run.holds (names.fit store given)
      (begins-within store given) done

  lasts : (store : Store) (given : FitsWants (declared_wants p.decls) store) (n : ℕ)
      → run_of_block p.decls p.body (record { store = store; turns = n }) ≡ None
      → Lasts o (comes-begun store given).end n
  lasts store given n spent =
      let run = comes-begun store given in
      follows.spent run.end store n run.shaped run.comes run.holds (names.fit store given)
      (begins-within store given) spent

  none-some : (left : Store) → ◌≡◌ {A = Option Store} None (Some left) → ⊥
  none-some left e = cc

  some-same : (first second : Store) → ◌≡◌ {A = Option Store} (Some first) (Some second) → first ≡ second
  some-same first second e = cc

  -- a program that is done leaves the store of what its block leaves
  done-block : (store left : Store) (n : ℕ) → meaning p store n ≡ Some left → (found : Option Left)
      → run_of_block p.decls p.body (record { store = store; turns = n }) ≡ found
      → (l : Left) × (run_of_block p.decls p.body (record { store = store; turns = n }) ≡ Some l) × (l.store ≡ left)
  done-block store left n is None found = absurd (none-some left (sym (left-means store n None found) ∙ is))
  done-block store left n is (Some l) found =
      (l, found, some-same l.store left (sym (left-means store n (Some l) found) ∙ is))

  run-halts : (store left : Store) (n : ℕ) → FitsWants (declared_wants p.decls) store → meaning p store n ≡ Some left
      → HaltsBelow o (start_state o (by_name p o store)) (costs * (n + 1)) (λ u. outputs o u ≡ by_name p o left)
  run-halts store left n given is =
      let block = done-block store left n is (run_of_block p.decls p.body (record { store = store; turns = n })) refl in
      subst (λ l. HaltsBelow o (start_state o (by_name p o store)) (costs * (n + 1))
      (λ u. outputs o u ≡ by_name p o l)) block.2
      (halts-below store given n block.0 (finishes store given n block.0 block.1))

  costs-least : 1 ≤ costs
  costs-least = omega (arith, costs-are)

  done-within : (store : Store) (n at : ℕ) → FitsWants (declared_wants p.decls) store
      → HaltsAt (trace_from o (start_state o (by_name p o store)) n) at
      → (found : Option Left) → run_of_block p.decls p.body (record { store = store; turns = n }) ≡ found
      → (left : Store) × (meaning p store n ≡ Some left)
      × (outputs o (final o (by_name p o store) n) ≡ by_name p o left)
  done-within store n at given halts None found =
      absurd (spent-no_halt store given n (lasts store given n found) at halts)
  done-within store n at given halts (Some l) found =
      let start = start_state o (by_name p o store) in
      let shaped = start-shaped store given in
      let is = left-means store n (Some l) found in
      let enough : n ≤ costs * (n + 1) = omega (arith, mul-le-mul_right (n + 1) costs-least) in (
        l.store,
        is,
        ap (outputs o) (sym (final_halted o fits start shaped n (costs * (n + 1)) at enough halts))
            ∙ left-within o fits start shaped (costs * (n + 1)) (λ u. outputs o u ≡ by_name p o l.store)
            (run-halts store l.store n given is),
      )

  -- the object implements the program
  pub implements : Implements p o
  implements = record {
    symbols = names.symbols;
    halts = λ store left n given is.
        halts-within o fits (start_state o (by_name p o store)) (start-shaped store given) (costs * (n + 1))
        (λ u. outputs o u ≡ by_name p o left) (run-halts store left n given is);
    leaves = λ store left n given is.
        left-within o fits (start_state o (by_name p o store)) (start-shaped store given) (costs * (n + 1))
        (λ u. outputs o u ≡ by_name p o left) (run-halts store left n given is);
    done = λ store n given halts.
        done-within store n halts.0 given halts.1
        (run_of_block p.decls p.body (record { store = store; turns = n })) refl;
  }
