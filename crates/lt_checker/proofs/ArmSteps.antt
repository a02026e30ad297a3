-- One instruction of an arm: the machine continues to the next place and shows the instruction's pattern, and what the
-- walk knows after the instruction describes the machine.
use Rattle.std.proofs.Common.{◌≡◌, ℕ, ◌+◌, ◌<◌, Bool, false, ◌||◌, ℤ, pos, List, [], ◌∷◌, ◌++◌, length, get_or, set, Option, Some, None, refl, sym, ap, ◌∙◌, subst, arith}
use Rattle.std.specs.Prelude.{slice_get, if◌then◌else◌}
use Rattle.std.proofs.lemmas.Bool.{eqb-true, eqb-false, or_parts}
use Rattle.gr_word.specs.declared.operations.Op.{Op}
use Rattle.gr_word.specs.Prelude.{applied}
use Rattle.lt_isa.specs.declared.instructions.Instr.{Instr}
use Rattle.lt_isa.specs.declared.instructions.Instr.TheVariants.{Nop, Halt, Li, Alu, Ldb, Stb, Idb, Ldw, Stw, Jmp, Br}
use Rattle.lt_isa.specs.Prelude.{Parts, is_ram, is_eram, latency_of, IsInRange, InstrFits, Slot, Bound, State, Observed, register, slot, block_at, word_in, read_event, write_event, cost_of, access_start, Goes, start_of, with_bound, block_named, word_named, executed, step_start, Stamped, seen_at, Reaches, IsShaped}
use Rattle.lt_isa.proofs.Steps.{step-at, step_start-at, instruction-fits}
use Rattle.lt_isa.proofs.Stretches.{reaches-step, reaches-append}
use Rattle.symbolic_values.specs.Prelude.{Value, Const, as_number, value_of}
use Rattle.trace_patterns.specs.Prelude.{Shown, joined, TreeEvent, RamRead, EncRead, EncWrite, Oram, Loaded, SymSlot, RamSlot, EramSlot, OramSlot, SymState, tree_held, slot_held, hold_tree, hold_slot, gap, event, named_block, applied_trees, block_held, word_held, single}
use Rattle.lt_checker.proofs.PatternValues.{shown_by, accessed_bank, played, ends, played-joined, ends-joined, ends-gap}
use Rattle.lt_checker.proofs.Singles.{OnSingle, on_single, on_if, on_tree, on_bound, on_stored, on_stores}
use Rattle.lt_checker.proofs.Described.{Holds, HoldsEram, HoldsOram, Describes, describes_moved, describes_register, describes_words, describes_slot, describes_block}
use Rattle.lt_checker.proofs.NamedPlaces.{named_block-value, applied_trees-value, found_by, rebound_by}
use Rattle.lt_isa.specs.Machine as seen
use Rattle.trace_patterns.specs.Single as walked

-- a run from a state to a place that shows a pattern, whose trees are evaluated at the entry, with what is known at its
-- end
pub record Runs (o : Parts) (e s : State) (place : ℕ) (pattern : Shown TreeEvent) (known : SymState) : Type 0 where
  pub last : State
  pub reached : Reaches o s (played o e s.cycle pattern.parts) last
  pub at : last.place ≡ place
  pub cycle : last.cycle ≡ ends o s.cycle pattern
  pub described : Describes e known last

-- two runs in sequence
pub runs_then : (o : Parts) (e s : State) (p q : ℕ) (first rest : Shown TreeEvent) (known after : SymState)
    → (one : Runs o e s p first known) → Runs o e one.last q rest after → Runs o e s q (joined first rest) after
runs_then o e s p q first rest known after one two = record {
  last = two.last;
  reached =
      subst (λ (es : List Stamped). Reaches o s es two.last)
      (ap (λ (c : ℕ). played o e s.cycle first.parts ++ played o e c rest.parts) one.cycle
      ∙ sym (played-joined o e s.cycle first rest))
      (reaches-append one.reached two.reached);
  at = two.at;
  cycle = two.cycle ∙ ap (λ (c : ℕ). ends o c rest) one.cycle ∙ sym (ends-joined o s.cycle first rest);
  described = two.described;
}

-- a step without an event
pub quiet : (o : Parts) (e s : State) (i : Instr) (next : State) (place cost : ℕ) (after : SymState)
    → slice_get o.code s.place ≡ Some i → executed o s i ≡ Goes None next → next.place ≡ place
    → next.cycle ≡ s.cycle + cost → Describes e after next → Runs o e s place (gap cost) after
quiet o e s i next place cost after at goes place_is cycle_is described = record {
  last = next;
  reached = reaches-step o s None next (step-at o s i at ∙ goes);
  at = place_is;
  cycle = cycle_is ∙ sym (ends-gap o s.cycle cost);
  described = described;
}

-- a step with an event
loud : (o : Parts) (e s : State) (i : Instr) (next : State) (shown : TreeEvent) (seen_is : Observed) (after : SymState)
    → slice_get o.code s.place ≡ Some i → executed o s i ≡ Goes (Some seen_is) next → seen_is ≡ shown_by e shown
    → start_of o.profile i s.cycle ≡ access_start o.profile s.cycle → next.place ≡ s.place + 1
    → next.cycle ≡ access_start o.profile s.cycle + latency_of o (accessed_bank shown) → Describes e after next
    → Runs o e s (s.place + 1) (event shown) after
loud o e s i next shown seen_is after at goes same start place_is cycle_is described =
    let more : s.cycle ≡ s.cycle + 0 = omega arith in
    let stamp : step_start o s ≡ access_start o.profile (s.cycle + 0) = step_start-at o s i at ∙ start
    ∙ ap (access_start o.profile) more in
    record {
      last = next;
      reached =
          subst (λ (es : List Stamped). Reaches o s es next)
          (ap (λ (c : ℕ). seen_at c seen_is ∷ []) stamp
          ∙ ap (λ (x : Observed). seen_at (access_start o.profile (s.cycle + 0)) x ∷ []) same)
          (reaches-step o s (Some seen_is) next (step-at o s i at ∙ goes));
      at = place_is;
      cycle = cycle_is ∙ ap (λ (c : ℕ). access_start o.profile c + latency_of o (accessed_bank shown)) more
          ∙ add_none (access_start o.profile (s.cycle + 0) + latency_of o (accessed_bank shown));
      described = described;
    }
  where
    add_none : (n : ℕ) → n ≡ n + 0
    add_none n = omega arith

module _ (o : Parts) (fits : IsInRange o) (e s : State) (shaped : IsShaped o s) (known : SymState)
    (h : Describes e known s) where
  value_held : (r : ℕ) (t : Value) → tree_held known r ≡ Some t → register s r ≡ value_of e t
  value_held r t held = h.registers r t held

  -- a register is set
  sets : (i : Instr) (rd : ℕ) (word : ℤ) (value : Option Value) (cost : ℕ) (next : State) → rd < 32
      → slice_get o.code s.place ≡ Some i → executed o s i ≡ Goes None (seen.set_register next rd word)
      → next ≡ record s { place = s.place + 1; cycle = s.cycle + cost }
      → ((t : Value) → value ≡ Some t → word ≡ value_of e t)
      → Runs o e s (s.place + 1) (gap cost) (hold_tree known rd value)
  sets i rd word value cost next inside at goes is values =
      let moved = record s { place = s.place + 1; cycle = s.cycle + cost } in
      let small : rd < length s.registers = omega (arith, shaped.register_count) in
      quiet o e s i (seen.set_register moved rd word) (s.place + 1) cost (hold_tree known rd value) at
      (goes ∙ ap (λ (x : State). Goes None (seen.set_register x rd word)) is) refl refl
      (describes_register e known moved rd value word small
      (describes_moved e known s (s.place + 1) (s.cycle + cost) h) values)

  li_runs : (rd : ℕ) (value : ℤ) → rd < 32 → slice_get o.code s.place ≡ Some (Li rd value)
      → OnSingle (Runs o e s (s.place + 1)) (single o known (Li rd value))
  unfolding single
  li_runs rd value inside at =
      sets (Li rd value) rd value (Some (Const value)) 1 _ inside at refl refl
      (λ t is. let same : Const value ≡ t = cc in ap (value_of e) same)

  alu_runs : (op : Op) (rd ra rb : ℕ) → rd < 32 → slice_get o.code s.place ≡ Some (Alu op rd ra rb)
      → OnSingle (Runs o e s (s.place + 1)) (single o known (Alu op rd ra rb))
  unfolding single
  alu_runs op rd ra rb inside at =
      sets (Alu op rd ra rb) rd (applied op (register s ra) (register s rb))
      (applied_trees op (tree_held known ra) (tree_held known rb))
      (cost_of o (Alu op rd ra rb) false 0) _ inside at refl refl
      (applied_trees-value e op (tree_held known ra) (tree_held known rb) (register s ra) (register s rb)
      (value_held ra) (value_held rb))

  idb_runs : (rd k : ℕ) → rd < 32 → slice_get o.code s.place ≡ Some (Idb rd k)
      → OnSingle (Runs o e s (s.place + 1)) (single o known (Idb rd k))
  unfolding single
  idb_runs rd k inside at =
      on_bound (Runs o e s (s.place + 1)) (slot_held known k) _ (λ is.
      let found = found_by o fits e (slot_held known k) (slot s k) is (h.slots k) in
      sets (Idb rd k) rd (pos found.at) (block_held (slot_held known k)) 1 _ inside at
      (ap (λ (x : Slot). with_bound x
      (λ b a words. Goes None (seen.set_register (record s { place = s.place + 1; cycle = s.cycle + 1 }) rd
      (pos a)))) found.bound) refl found.block)

  ldw_runs : (rd k ro : ℕ) → rd < 32 → slice_get o.code s.place ≡ Some (Ldw rd k ro)
      → OnSingle (Runs o e s (s.place + 1)) (single o known (Ldw rd k ro))
  unfolding single
  ldw_runs rd k ro inside at =
      on_bound (Runs o e s (s.place + 1)) (slot_held known k) _ (λ is.
      let found = found_by o fits e (slot_held known k) (slot s k) is (h.slots k) in
      sets (Ldw rd k ro) rd (word_in found.words (word_named o (register s ro)))
      (word_held o (slot_held known k) (tree_held known ro)) o.profile.word _ inside at
      (ap (λ (x : Slot). with_bound x
      (λ b a words. Goes None (seen.set_register (record s { place = s.place + 1; cycle = s.cycle + o.profile.word }) rd
      (word_in words (word_named o (register s ro)))))) found.bound) refl
      (found.word (tree_held known ro) (register s ro) (value_held ro)))

  stw_runs : (rs k ro : ℕ) → k < 8 → slice_get o.code s.place ≡ Some (Stw rs k ro)
      → OnSingle (Runs o e s (s.place + 1)) (single o known (Stw rs k ro))
  unfolding single
  stw_runs rs k ro inside at =
      on_stored (Runs o e s (s.place + 1)) (slot_held known k) _ (λ is.
      let found = rebound_by e (slot_held known k) (slot s k) is (h.slots k) in
      let moved = record s { place = s.place + 1; cycle = s.cycle + o.profile.word } in
      let others = set found.words (word_named o (register s ro)) (register s rs) in
      let small : k < length s.slots = omega (arith, shaped.slot_count) in
      quiet o e s (Stw rs k ro) (seen.set_slot moved k (Bound found.bank found.at others))
      (s.place + 1) o.profile.word known at
      (ap (λ (x : Slot). with_bound x
      (λ b a words. Goes None (seen.set_slot moved k
      (Bound b a (set words (word_named o (register s ro)) (register s rs)))))) found.bound)
      refl refl
      (describes_words e known moved k (Bound found.bank found.at others) small
      (describes_moved e known s (s.place + 1) (s.cycle + o.profile.word) h) (found.holds others)))

  -- a block is loaded
  binds : (k b r : ℕ) (shown : TreeEvent) (bound : SymSlot) → k < 8 → slice_get o.code s.place ≡ Some (Ldb k b r)
      → b ≡ accessed_bank shown
      → read_event b (block_named o b (register s r)) (block_at s b (block_named o b (register s r))) ≡ shown_by e shown
      → Holds e bound (Bound b (block_named o b (register s r)) (block_at s b (block_named o b (register s r))))
      → Runs o e s (s.place + 1) (event shown) (hold_slot known k bound)
  binds k b r shown bound inside at bank shows holds =
      let a = block_named o b (register s r) in
      let cycle = access_start o.profile s.cycle + latency_of o b in
      let moved = record s { place = s.place + 1; cycle = cycle } in
      let small : k < length s.slots = omega (arith, shaped.slot_count) in
      loud o e s (Ldb k b r) (seen.set_slot moved k (Bound b a (block_at s b a))) shown
      (read_event b a (block_at s b a)) (hold_slot known k bound) at refl shows refl refl
      (ap (λ (c : ℕ). access_start o.profile s.cycle + latency_of o c) bank)
      (describes_slot e known moved k bound (Bound b a (block_at s b a)) small
      (describes_moved e known s (s.place + 1) cycle h) holds)

  ram_block : (a : ℕ) → block_at s 0 a ≡ block_at e 0 a
  ram_block a = ap (λ (blocks : List (List ℤ)). get_or blocks a []) h.ram

  ldb_ram : (k r : ℕ) (t : Value) → k < 8 → 0 < length o.banks → tree_held known r ≡ Some t
      → slice_get o.code s.place ≡ Some (Ldb k 0 r)
      → Runs o e s (s.place + 1) (event (RamRead (named_block o 0 t)))
      (hold_slot known k (RamSlot (named_block o 0 t) Loaded))
  ldb_ram k r t inside exists held at =
      let a = block_named o 0 (register s r) in
      let value = named_block-value o fits e 0 t (register s r) exists (value_held r t held) in
      binds k 0 r (RamRead (named_block o 0 t)) (RamSlot (named_block o 0 t) Loaded) inside at refl
      (ap (seen.RamRead a) (ram_block a)
      ∙ ap (λ (v : ℤ). seen.RamRead (as_number v) (block_at e 0 (as_number v))) (sym value))
      (record { at = a; value = value; bound = ap (Bound 0 a) (ram_block a) })

  ldb_eram : (k r : ℕ) (t : Value) → k < 8 → 1 < length o.banks → tree_held known r ≡ Some t
      → slice_get o.code s.place ≡ Some (Ldb k 1 r)
      → Runs o e s (s.place + 1) (event (EncRead (named_block o 1 t)))
      (hold_slot known k (EramSlot (named_block o 1 t)))
  ldb_eram k r t inside exists held at =
      let a = block_named o 1 (register s r) in
      let value = named_block-value o fits e 1 t (register s r) exists (value_held r t held) in
      binds k 1 r (EncRead (named_block o 1 t)) (EramSlot (named_block o 1 t)) inside at refl
      (ap (λ (v : ℤ). seen.EncRead (as_number v)) (sym value))
      (record { at = a; words = block_at s 1 a; value = value; bound = refl })

  ldb_oram : (k b r : ℕ) → k < 8 → is_ram b ≡ false → is_eram b ≡ false → slice_get o.code s.place ≡ Some (Ldb k b r)
      → Runs o e s (s.place + 1) (event (Oram b)) (hold_slot known k (OramSlot b))
  ldb_oram k b r inside ram eram at =
      let a = block_named o b (register s r) in
      let words = block_at s b a in
      binds k b r (Oram b) (OramSlot b) inside at refl
      (ap (λ (c : Bool). if c then seen.RamRead a words else (if is_eram b then seen.EncRead a else seen.Oram b)) ram
      ∙ ap (λ (c : Bool). if c then seen.EncRead a else seen.Oram b) eram)
      (record { at = a; words = words; bound = refl; hidden = ap (λ (c : Bool). c || is_eram b) ram ∙ eram })

  ldb_runs : (k b r : ℕ) → k < 8 → b < length o.banks → slice_get o.code s.place ≡ Some (Ldb k b r)
      → OnSingle (Runs o e s (s.place + 1)) (single o known (Ldb k b r))
  unfolding single
  ldb_runs k b r inside exists at =
      let P = Runs o e s (s.place + 1) in
      on_if P (is_ram b) _ _
      (λ ram. on_tree P (tree_held known r) _ (λ t held.
      subst (λ (c : ℕ). c < length o.banks → slice_get o.code s.place ≡ Some (Ldb k c r) → Runs o e s (s.place + 1)
      (event (RamRead (named_block o c t))) (hold_slot known k (RamSlot (named_block o c t) Loaded)))
      (sym (eqb-true b 0 ram)) (λ more is. ldb_ram k r t inside more held is) exists at))
      (λ not_ram.
      on_if P (is_eram b) _ _
      (λ eram. on_tree P (tree_held known r) _ (λ t held.
      subst (λ (c : ℕ). c < length o.banks → slice_get o.code s.place ≡ Some (Ldb k c r) → Runs o e s (s.place + 1)
      (event (EncRead (named_block o c t))) (hold_slot known k (EramSlot (named_block o c t))))
      (sym (eqb-true b 1 eram)) (λ more is. ldb_eram k r t inside more held is) exists at))
      (λ not_eram. ldb_oram k b r inside not_ram not_eram at))

  -- a block is stored, but not in plain memory
  writes : (k b a : ℕ) (words : List ℤ) (shown : TreeEvent) → slice_get o.code s.place ≡ Some (Stb k)
      → slot s k ≡ Bound b a words → (0 ≡ b → ⊥) → b ≡ accessed_bank shown → write_event b a words ≡ shown_by e shown
      → Runs o e s (s.place + 1) (event shown) known
  writes k b a words shown at bound other bank shows =
      let moved = λ (c : ℕ). record s
      { place = s.place + 1; cycle = access_start o.profile s.cycle + latency_of o c } in
      loud o e s (Stb k) (seen.set_block (moved b) b a words) shown (write_event b a words) known at
      (ap (λ (x : Slot). with_bound x
      (λ c d others. Goes (Some (write_event c d others)) (seen.set_block (moved c) c d others))) bound)
      shows refl refl (ap (λ (c : ℕ). access_start o.profile s.cycle + latency_of o c) bank)
      (describes_block e known (moved b) b a words other
      (describes_moved e known s (s.place + 1) (access_start o.profile s.cycle + latency_of o b) h))

  stb_runs : (k : ℕ) → slice_get o.code s.place ≡ Some (Stb k)
      → OnSingle (Runs o e s (s.place + 1)) (single o known (Stb k))
  unfolding single
  stb_runs k at =
      on_stores (Runs o e s (s.place + 1)) known (slot_held known k)
      (λ block is.
      let held : HoldsEram e block (slot s k) = subst (λ (x : SymSlot). Holds e x (slot s k)) is (h.slots k) in
      writes k 1 held.at held.words (EncWrite block) at held.bound (λ same. absurd (omega arith)) refl
      (ap (λ (v : ℤ). seen.EncWrite (as_number v)) (sym held.value)))
      (λ bank is.
      let held : HoldsOram bank (slot s k) = subst (λ (x : SymSlot). Holds e x (slot s k)) is (h.slots k) in
      let tests = or_parts (is_ram bank) (is_eram bank) held.hidden in
      writes k bank held.at held.words (Oram bank) at held.bound (λ same. eqb-false bank 0 tests.0 (sym same)) refl
      (ap (λ (c : Bool). if c then seen.RamWrite held.at held.words else
      (if is_eram bank then seen.EncWrite held.at else seen.Oram bank)) tests.0
      ∙ ap (λ (c : Bool). if c then seen.EncWrite held.at else seen.Oram bank) tests.1))

  instr_runs : (i : Instr) → InstrFits (length o.banks) i → slice_get o.code s.place ≡ Some i
      → OnSingle (Runs o e s (s.place + 1)) (single o known i)
  unfolding single
  instr_runs Nop operands at =
      quiet o e s Nop (record s { place = s.place + 1; cycle = s.cycle + 1 }) (s.place + 1) 1 known at refl refl refl
      (describes_moved e known s (s.place + 1) (s.cycle + 1) h)
  instr_runs (Li rd value) operands at = li_runs rd value operands.0 at
  instr_runs (Alu op rd ra rb) operands at = alu_runs op rd ra rb operands.0 at
  instr_runs (Ldb k b r) operands at = ldb_runs k b r operands.0 operands.1 at
  instr_runs (Stb k) operands at = stb_runs k at
  instr_runs (Idb rd k) operands at = idb_runs rd k operands.0 at
  instr_runs (Ldw rd k ro) operands at = ldw_runs rd k ro operands.0 at
  instr_runs (Stw rs k ro) operands at = stw_runs rs k ro operands.1 at
  instr_runs other operands at = tt

  -- a run of one instruction of an arm shows the instruction's pattern
  pub single_runs : (i : Instr) (shown : Shown TreeEvent) (after : SymState) → slice_get o.code s.place ≡ Some i
      → single o known i ≡ walked.Goes shown after → Runs o e s (s.place + 1) shown after
  single_runs i shown after at goes =
      on_single (Runs o e s (s.place + 1)) (single o known i) shown after
      (instr_runs i (instruction-fits o fits s.place i at) at) goes
