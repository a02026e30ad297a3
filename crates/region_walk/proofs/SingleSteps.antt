-- One instruction of an arm, over numbers and over trees: if it shows something, it leads to what is known after it.
use Rattle.std.proofs.Common.{◌≡◌, ℕ, ◌<◌, Bool, true, false, List, length, Option, Some, None, refl, sym, ap, ◌∙◌, subst, arith, get_or-set_same}
use Rattle.std.specs.Prelude.{Result, Ok, Err, OnOk, if◌then◌else◌}
use Rattle.std.proofs.lemmas.List.{length-map}
use Rattle.gr_base.specs.declared.errors.Memory.{Memory as NoMemory}
use Rattle.gr_word.specs.declared.operations.Op.{Op}
use Rattle.gr_word.specs.declared.operations.Op.TheVariants.{Add, Sub, Mul, Div, Rem, Remu, And, Or, Xor, Shl, Shr}
use Rattle.lt_isa.specs.declared.instructions.Instr.{Instr}
use Rattle.lt_isa.specs.declared.instructions.Instr.TheVariants.{Alu, Ldb, Stb}
use Rattle.lt_isa.specs.Prelude.{Parts, is_ram, is_eram, cost_of, operation_cost, IsInRange, ProfileFits}
use Rattle.lt_isa.specs.declared.profiles.Profile.{Profile}
use Rattle.symbolic_values.specs.declared.nodes.Node.{Node}
use Rattle.symbolic_values.specs.Prelude.{Value, IsTable}
use Rattle.trace_patterns.specs.declared.reasons.Reason.TheVariants.{SecretAddress}
use Rattle.trace_patterns.specs.Prelude.{Shown, TreeEvent, RamRead, EncRead, Oram, SymState, SymSlot, AnySlot, RamSlot, EramSlot, OramSlot, Loaded, tree_held, slot_held, hold_slot, event, quietly, stores, at_tree, named_block, single, held_behind, ram_loaded, eram_loaded, slot_loaded}
use Rattle.region_walk.specs.declared.states.Slot.{Slot}
use Rattle.region_walk.specs.declared.states.RegionState.{RegionState}
use Rattle.region_walk.specs.Prelude.{slot_of, NumberedSlotFits, slot_at, sym_of, StateFits, HoldsBehind, ShowsSingle, IsSingle, quiet_after, shown_block, shown_load, shown_store, if_bound, if_stored}
use Rattle.region_walk.proofs.Numbered.{slot_held-sym}
use Rattle.region_walk.proofs.HeldBehind.{same-behind}
use Rattle.trace_patterns.specs.Single as whole
use Rattle.region_walk.specs.declared.states.Slot.TheVariants as slot

-- an operation takes fewer than 128 cycles
operation-few : (p : Profile) → ProfileFits p → (op : Op) → operation_cost p op < 128
operation-few p fits Add = omega arith
operation-few p fits Sub = omega arith
operation-few p fits Mul = omega arith
operation-few p fits Div = omega arith
operation-few p fits Rem = omega arith
operation-few p fits Remu = omega arith
operation-few p fits And = omega arith
operation-few p fits Or = omega arith
operation-few p fits Xor = omega arith
operation-few p fits Shl = omega arith
operation-few p fits Shr = omega arith

-- an instruction with an operation takes fewer than 128 cycles
pub alu-few : (o : Parts) → IsInRange o → (op : Op) (rd ra rb : ℕ) → cost_of o (Alu op rd ra rb) false 0 < 128
alu-few o range op rd ra rb = operation-few o.profile range.profile op

-- a read or a write of a word takes fewer than 128 cycles
pub word-few : (o : Parts) → IsInRange o → o.profile.word < 128
word-few o range = let h = range.profile.word in omega arith

-- what a load of a block shows, by what its slot is bound to then
abbrev loaded : SymSlot → SymState → whole.Single
loaded AnySlot behind = whole.Refuses SecretAddress
loaded (RamSlot block origin) behind = whole.Goes (event (RamRead block)) behind
loaded (EramSlot block) behind = whole.Goes (event (EncRead block)) behind
loaded (OramSlot bank) behind = whole.Goes (event (Oram bank)) behind

module _ (o : Parts) (s : SymState) (k bank : ℕ) where
  loaded_by : (ram eram : Bool) (t : Option Value)
      → (if ram then at_tree t (λ u. whole.Goes (event (RamRead (named_block o bank u)))
      (hold_slot s k (RamSlot (named_block o bank u) Loaded)))
      else (if eram then at_tree t (λ u. whole.Goes (event (EncRead (named_block o bank u)))
      (hold_slot s k (EramSlot (named_block o bank u))))
      else whole.Goes (event (Oram bank)) (hold_slot s k (OramSlot bank))))
      ≡ (let bound = if ram then ram_loaded o bank t else (if eram then eram_loaded o bank t else OramSlot bank) in
      loaded bound (hold_slot s k bound))
  loaded_by true eram None = refl
  loaded_by true eram (Some u) = refl
  loaded_by false true None = refl
  loaded_by false true (Some u) = refl
  loaded_by false false t = refl

  load-held : (r : ℕ) → single o s (Ldb k bank r)
      ≡ loaded (slot_loaded o bank (tree_held s r)) (held_behind o s (Ldb k bank r))
  unfolding single held_behind
  load-held r = loaded_by (is_ram bank) (is_eram bank) (tree_held s r)

  -- the slot of a load is bound to the block
  load-binds : (r : ℕ) → k < length s.slots
      → slot_held (held_behind o s (Ldb k bank r)) k ≡ slot_loaded o bank (tree_held s r)
  unfolding held_behind
  load-binds r lt = get_or-set_same s.slots k (slot_loaded o bank (tree_held s r)) AnySlot lt

slots_long : (nodes : List Node) (s : RegionState) (count k : ℕ) → StateFits count s → k < 8
    → k < length (sym_of nodes s).slots
unfolding sym_of
slots_long nodes s count k fits lt = omega (arith, length-map s.slots (slot_of nodes), fits.slot_count)

-- an instruction that shows something, and what is known after it
module _ (o : Parts) (old new : List Node) (s behind : RegionState) where
  shows_held : (i : Instr) (shown : Shown TreeEvent)
      → single o (sym_of old s) i ≡ whole.Goes shown (held_behind o (sym_of old s) i)
      → HoldsBehind o old s i new behind → ShowsSingle o old s i shown new behind
  shows_held i shown e h = record {
    goes = e ∙ ap (whole.Goes shown) (sym h.is);
    gains = h.gains;
    fits = h.fits;
  }

  -- an instruction without an event
  pub quiet-single : (i : Instr) (held : Result (Unit {0}) NoMemory)
      → single o (sym_of old s) i ≡ quietly o i (held_behind o (sym_of old s) i) → cost_of o i false 0 < 128
      → OnOk held (HoldsBehind o old s i new behind)
      → IsSingle o old s i (quiet_after held (cost_of o i false 0)) new behind
  quiet-single i (Ok done) e few h = record { on = shows_held i _ e h; few = few }
  quiet-single i (Err x) e few h = tt

  bound_by : (i : Instr) (held : Result (Unit {0}) NoMemory) (b : Slot)
      → single o (sym_of old s) i ≡ whole.if_bound (slot_of old b) (quietly o i (held_behind o (sym_of old s) i))
      → cost_of o i false 0 < 128 → OnOk held (HoldsBehind o old s i new behind)
      → IsSingle o old s i (if_bound b (quiet_after held (cost_of o i false 0))) new behind
  bound_by i held slot.Any e few h = e
  bound_by i held other e few h = quiet-single i held e few h

  -- an instruction whose slot must be bound
  pub bound-single : (i : Instr) (held : Result (Unit {0}) NoMemory) (k : ℕ) (b : Slot) → b ≡ slot_at s k
      → single o (sym_of old s) i
      ≡ whole.if_bound (slot_held (sym_of old s) k) (quietly o i (held_behind o (sym_of old s) i))
      → cost_of o i false 0 < 128 → OnOk held (HoldsBehind o old s i new behind)
      → IsSingle o old s i (if_bound b (quiet_after held (cost_of o i false 0))) new behind
  bound-single i held k b at e few h =
      bound_by i held b
      (e ∙ ap (λ (x : SymSlot). whole.if_bound x (quietly o i (held_behind o (sym_of old s) i)))
      (slot_held-sym old s k ∙ ap (slot_of old) (sym at))) few h

  stored_by : (i : Instr) (held : Result (Unit {0}) NoMemory) (b : Slot)
      → single o (sym_of old s) i ≡ whole.if_stored (slot_of old b) (quietly o i (held_behind o (sym_of old s) i))
      → cost_of o i false 0 < 128 → OnOk held (HoldsBehind o old s i new behind)
      → IsSingle o old s i (if_stored b (quiet_after held (cost_of o i false 0))) new behind
  stored_by i held slot.Any e few h = e
  stored_by i held (slot.Ram block origin) e few h = e
  stored_by i held (slot.Eram block) e few h = quiet-single i held e few h
  stored_by i held (slot.Oram bank) e few h = quiet-single i held e few h

  -- a store of a word
  pub stored-single : (i : Instr) (held : Result (Unit {0}) NoMemory) (k : ℕ) (b : Slot) → b ≡ slot_at s k
      → single o (sym_of old s) i
      ≡ whole.if_stored (slot_held (sym_of old s) k) (quietly o i (held_behind o (sym_of old s) i))
      → cost_of o i false 0 < 128 → OnOk held (HoldsBehind o old s i new behind)
      → IsSingle o old s i (if_stored b (quiet_after held (cost_of o i false 0))) new behind
  stored-single i held k b at e few h =
      stored_by i held b
      (e ∙ ap (λ (x : SymSlot). whole.if_stored x (quietly o i (held_behind o (sym_of old s) i)))
      (slot_held-sym old s k ∙ ap (slot_of old) (sym at))) few h

  load_by : (k bank r : ℕ) (b : Slot) → slot_at behind k ≡ b
      → single o (sym_of old s) (Ldb k bank r) ≡ loaded (slot_of new b) (held_behind o (sym_of old s) (Ldb k bank r))
      → HoldsBehind o old s (Ldb k bank r) new behind → IsSingle o old s (Ldb k bank r) (shown_block b) new behind
  load_by k bank r slot.Any at e h = e
  load_by k bank r (slot.Ram block origin) at e h =
      record { on = shows_held _ _ e h; number = subst (NumberedSlotFits (length new)) at (h.fits.slots k) }
  load_by k bank r (slot.Eram block) at e h =
      record { on = shows_held _ _ e h; number = subst (NumberedSlotFits (length new)) at (h.fits.slots k) }
  load_by k bank r (slot.Oram other) at e h = record { on = shows_held _ _ e h; number = tt }

  -- a load of a block
  pub load-single : (k bank r : ℕ) (held : Result (Unit {0}) NoMemory) (b : Slot) → StateFits (length old) s → k < 8
      → b ≡ slot_at behind k → OnOk held (HoldsBehind o old s (Ldb k bank r) new behind)
      → IsSingle o old s (Ldb k bank r) (shown_load held b) new behind
  load-single k bank r (Err x) b fits lt at h = tt
  load-single k bank r (Ok done) b fits lt at h =
      let there : slot_of new b ≡ slot_held (held_behind o (sym_of old s) (Ldb k bank r)) k =
      ap (slot_of new) at ∙ sym (slot_held-sym new behind k) ∙ ap (λ (u : SymState). slot_held u k) h.is in
      let bound : slot_loaded o bank (tree_held (sym_of old s) r) ≡ slot_of new b =
      sym (there ∙ load-binds o (sym_of old s) k bank r (slots_long old s (length old) k fits lt)) in
      load_by k bank r b (sym at)
      (load-held o (sym_of old s) k bank r
      ∙ ap (λ (x : SymSlot). loaded x (held_behind o (sym_of old s) (Ldb k bank r))) bound) h

-- a store of a block changes nothing
module _ (o : Parts) (nodes : List Node) (s : RegionState) (table : IsTable nodes) (fits : StateFits (length nodes) s)
  where
    store_by : (k : ℕ) (b : Slot) → slot_at s k ≡ b
        → single o (sym_of nodes s) (Stb k) ≡ stores (sym_of nodes s) (slot_of nodes b)
        → HoldsBehind o nodes s (Stb k) nodes s → IsSingle o nodes s (Stb k) (shown_store b) nodes s
    unfolding held_behind
    store_by k slot.Any at e h = e
    store_by k (slot.Ram block origin) at e h = e
    store_by k (slot.Eram block) at e h =
        record {
          on = shows_held o nodes nodes s s _ _ e h;
          number = subst (NumberedSlotFits (length nodes)) at (fits.slots k);
        }
    store_by k (slot.Oram bank) at e h = record { on = shows_held o nodes nodes s s _ _ e h; number = tt }

    pub store-single : (k : ℕ) (b : Slot) → b ≡ slot_at s k → IsSingle o nodes s (Stb k) (shown_store b) nodes s
    unfolding single held_behind
    store-single k b at =
        store_by k b (sym at)
        (ap (stores (sym_of nodes s)) (slot_held-sym nodes s k ∙ ap (slot_of nodes) (sym at)))
        (same-behind o nodes s (Stb k) table fits refl)
