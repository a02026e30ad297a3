-- What is known at the entry of a region, item by item, and after the region in public code.
use Rattle.std.proofs.Common.{◌≡◌, ℕ, zero, suc, ◌+◌, ◌<◌, Bool, true, false, List, length, get_or, map, Option, None, refl, sym, ap, ◌∙◌, subst, arith, length-set}
use Rattle.std.specs.Prelude.{is_none, replicate}
use Rattle.std.proofs.lemmas.List.{ext_get_or, get_or_past}
use Rattle.std.proofs.Math.ListN.{get_or-map, length-map}
use Rattle.symbolic_values.specs.declared.nodes.Node.{Node}
use Rattle.trace_patterns.specs.Prelude.{Known, is_secret, bank_known, start_known, AnySlot, at_entry, entry_tree, entry_slot}
use Rattle.trace_patterns.proofs.SymStateLaws.{tree-at_entry, slot-at_entry, sized-at_entry}
use Rattle.region_walk.specs.declared.states.Slot.{Slot}
use Rattle.region_walk.specs.declared.states.Slot.TheVariants.{Any}
use Rattle.region_walk.specs.declared.states.RegionState.{RegionState}
use Rattle.region_walk.specs.Prelude.{known_tree, slot_of, bank_of, NumberFits, NumberedSlotFits, number_in, slot_at, with_number, with_known_slot, sym_of, known_of, HoldsEntry, BindsEntry, IsEntryNumber, IsEntrySlot, IsAtEntry}
use Rattle.region_walk.proofs.Numbered.{state-same, set_cases, known_more}

-- one more register
pub hold-more : (n : ℕ) (k : Known) (nodes : List Node) (s t : RegionState) (v : Option ℕ) → HoldsEntry n k nodes s t
    → n < 32
    → IsEntryNumber (entry_tree k n) nodes v → HoldsEntry (n + 1) k nodes s (with_number t n v)
hold-more n k nodes s t v h inside e = record {
  held_are = known_more (λ q w. known_tree nodes w ≡ entry_tree k q) t.registers n v None (omega (arith, h.size))
      h.held_are
      e.held_is;
  fits = λ r. set_cases (NumberFits (length nodes)) t.registers n r v None e.fits tt (h.fits r);
  size = length-set t.registers n v ∙ h.size;
  slots = h.slots;
}

-- one more slot
pub bind-more : (n : ℕ) (k : Known) (nodes : List Node) (s t : RegionState) (b : Slot) → BindsEntry n k nodes s t → n
    < 8
    → IsEntrySlot (bank_known k n) n nodes b → BindsEntry (n + 1) k nodes s (with_known_slot t n b)
bind-more n k nodes s t b h inside e = record {
  bound_are = known_more (λ q c. slot_of nodes c ≡ entry_slot (bank_known k q) q) t.slots n b Any
      (omega (arith, h.size)) h.bound_are e.bound_is;
  fits = λ j. set_cases (NumberedSlotFits (length nodes)) t.slots n j b Any e.fits tt (h.fits j);
  size = length-set t.slots n b ∙ h.size;
  registers = h.registers;
}

-- all registers and all slots
pub at_entry-from : (k : Known) (nodes : List Node) (s t u : RegionState) → HoldsEntry 32 k nodes s t
    → BindsEntry 8 k nodes t u → IsAtEntry k nodes u
unfolding sym_of
at_entry-from k nodes s t u h b = record {
  state = state-same _ _
      (ext_get_or None (map (known_tree nodes) u.registers) (at_entry k).registers
      (length-map u.registers (known_tree nodes) ∙ count ∙ sym (sized-at_entry k).registers)
      (λ r lt. get_or-map (known_tree nodes) u.registers r None
      ∙ register r (omega (arith, length-map u.registers (known_tree nodes), count))
      ∙ sym (tree-at_entry k r (omega (arith, length-map u.registers (known_tree nodes), count)))))
      (ext_get_or AnySlot (map (slot_of nodes) u.slots) (at_entry k).slots
      (length-map u.slots (slot_of nodes) ∙ b.size ∙ sym (sized-at_entry k).slots)
      (λ j lt. get_or-map (slot_of nodes) u.slots j Any
      ∙ b.bound_are j (omega (arith, length-map u.slots (slot_of nodes), b.size))
      ∙ sym (slot-at_entry k j (omega (arith, length-map u.slots (slot_of nodes), b.size)))));
  fits = record {
    register_count = count;
    slot_count = b.size;
    registers = λ r. subst (NumberFits (length nodes)) (sym (same r)) (h.fits r);
    slots = b.fits;
  };
}
  where
    count : length u.registers ≡ 32
    count = ap (λ (xs : List (Option ℕ)). length xs) b.registers ∙ h.size

    same : (r : ℕ) → number_in u r ≡ number_in t r
    same r = ap (λ (xs : List (Option ℕ)). get_or xs r None) b.registers

    register : (r : ℕ) → r < 32 → known_tree nodes (number_in u r) ≡ entry_tree k r
    register r lt = ap (known_tree nodes) (same r) ∙ h.held_are r lt

-- a list of equal items
get_or-replicate : {X : Type 0} (n : ℕ) (x : X) (i : ℕ) → get_or (replicate n x) i x ≡ x
get_or-replicate zero x i = get_or_past (replicate zero x) i x (omega arith)
get_or-replicate (suc n) x zero = refl
get_or-replicate (suc n) x (suc i) = get_or-replicate n x i

-- at first no register is known
pub nothing-replicate : (v : Option ℕ) → v ≡ None → (r : ℕ) → get_or (replicate 32 v) r None ≡ None
nothing-replicate v none r = subst (λ (w : Option ℕ). get_or (replicate 32 w) r None ≡ None) (sym none)
    (get_or-replicate 32 None r)

-- at first no slot is known
pub any-replicate : (k : ℕ) → get_or (replicate 8 Any) k Any ≡ Any
any-replicate k = get_or-replicate 8 Any k

length-replicated : {X : Type 0} (n : ℕ) (x : X) → length (replicate n x) ≡ n
length-replicated zero x = refl
length-replicated (suc n) x = ap suc (length-replicated n x)

-- there are 32 registers
pub nothing-size : (v : Option ℕ) → length (replicate 32 v) ≡ 32
nothing-size v = length-replicated 32 v

-- there are 8 slots
pub any-size : length (replicate 8 Any) ≡ 8
any-size = length-replicated 8 Any

-- a mark for each register
pub start-secret : length start_known.secret ≡ 32
unfolding start_known
start-secret = length-replicated 32 false

-- a bank for each slot
pub start-banks : length start_known.banks ≡ 8
unfolding start_known
start-banks = length-replicated 8 (let v : Option ℕ = None in v)

-- at the start no slot's bank is known
pub start-bank : (j : ℕ) → bank_known start_known j ≡ None
unfolding start_known
start-bank j = get_or-replicate 8 None j

-- what is known after a region, item by item
pub known_of-same : (k : Known) (s : RegionState) → length k.secret ≡ 32 → length k.banks ≡ 8 → length s.registers ≡ 32
    → length s.slots ≡ 8 → ((q : ℕ) → q < 32 → is_secret k q ≡ is_none (number_in s q))
    → ((q : ℕ) → q < 8 → bank_known k q ≡ bank_of (slot_at s q)) → k ≡ known_of s
unfolding known_of
known_of-same k s secret banks registers slots secrets bound =
    let test : Option ℕ → Bool = λ v. is_none v in
    let first : k.secret ≡ map is_none s.registers = ext_get_or true k.secret (map is_none s.registers)
    (secret ∙ sym registers ∙ sym (length-map s.registers test))
    (λ q lt. secrets q (omega arith) ∙ sym (get_or-map test s.registers q None)) in
    let second : k.banks ≡ map bank_of s.slots = ext_get_or None k.banks (map bank_of s.slots)
    (banks ∙ sym slots ∙ sym (length-map s.slots bank_of))
    (λ q lt. bound q (omega arith) ∙ sym (get_or-map bank_of s.slots q Any)) in
    λ i. record { secret = first i; banks = second i }
