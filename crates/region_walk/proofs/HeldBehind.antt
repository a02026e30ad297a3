-- What is known after one instruction, over numbers and over trees.
use Rattle.std.proofs.Common.{◌≡◌, ℕ, ◌<◌, ◌≤◌, ◌==◌, Bool, true, false, ℤ, List, length, Option, Some, None, refl, sym, ap, ◌∙◌, arith}
use Rattle.std.proofs.lemmas.Bool.{ne_eqb, eqb-false, eq-eqb}
use Rattle.gr_word.specs.declared.operations.Op.{Op}
use Rattle.lt_isa.specs.declared.instructions.Instr.{Instr}
use Rattle.lt_isa.specs.declared.instructions.Instr.TheVariants.{Li, Alu, Ldb, Idb, Ldw}
use Rattle.lt_isa.specs.Prelude.{Parts}
use Rattle.symbolic_values.specs.declared.nodes.Node.{Node}
use Rattle.symbolic_values.specs.Prelude.{Value, Const, IsTable}
use Rattle.trace_patterns.specs.Prelude.{SymState, SymSlot, AnySlot, RamSlot, EramSlot, OramSlot, Loaded, tree_held, hold_tree, hold_slot, block_held, word_held, applied_trees, named_block, held_behind, slot_loaded}
use Rattle.region_walk.specs.declared.states.Slot.{Slot}
use Rattle.region_walk.specs.declared.states.RegionState.{RegionState}
use Rattle.region_walk.specs.Prelude.{known_tree, slot_of, NumberFits, NumberedSlotFits, number_in, slot_at, with_number, with_known_slot, sym_of, StateFits, TableGains, FindsNumber, FindsHeld, HoldsBehind}
use Rattle.region_walk.proofs.TableGrowth.{gains-own, gains-more, keeps-longer}
use Rattle.region_walk.proofs.Numbered.{tree_held-sym, slot_held-sym, sym_of-keeps, sym_of-register, sym_of-slot, state_fits-more, state_fits-register, state_fits-slot}

-- nothing is changed
pub same-behind : (o : Parts) (nodes : List Node) (s : RegionState) (i : Instr) → IsTable nodes
    → StateFits (length nodes) s → held_behind o (sym_of nodes s) i ≡ sym_of nodes s → HoldsBehind o nodes s i nodes s
same-behind o nodes s i table fits e = record {
  is = sym e;
  gains = gains-more 0 4 nodes nodes (omega arith) (gains-own nodes table);
  fits = fits;
}

-- each instruction that changes something, with the value that was found for its register or the block of its slot
module _ (o : Parts) (old new : List Node) (s : RegionState) (fits : StateFits (length old) s) where
  register_behind : (i : Instr) (rd most : ℕ) (t : Option Value) (v : Option ℕ)
      → held_behind o (sym_of old s) i ≡ hold_tree (sym_of old s) rd t → most ≤ 4
      → FindsHeld most old new t v → HoldsBehind o old s i new (with_number s rd v)
  register_behind i rd most t v e le h =
      let to : hold_tree (sym_of old s) rd t ≡ sym_of new (with_number s rd v) =
      ap (λ (u : SymState). hold_tree u rd t) (sym (sym_of-keeps old new h.gains.keeps s fits))
      ∙ ap (hold_tree (sym_of new s) rd) (sym h.held_is) ∙ sym_of-register new s rd v in
      record {
        is = sym (e ∙ to);
        gains = gains-more most 4 old new le h.gains;
        fits = state_fits-register (length new) s rd v
            (state_fits-more (length old) (length new) s (keeps-longer old new h.gains.keeps) fits) h.fits;
      }

  pub li-behind : (rd : ℕ) (value : ℤ) (number : ℕ) → FindsNumber 1 old new (Const value) number
      → HoldsBehind o old s (Li rd value) new (with_number s rd (Some number))
  unfolding held_behind
  li-behind rd value number h =
      register_behind (Li rd value) rd 1 (Some (Const value)) (Some number) refl (omega arith)
      (record { gains = h.gains; held_is = ap Some h.number.tree; fits = h.number.inside })

  pub alu-behind : (op : Op) (rd ra rb : ℕ) (a b v : Option ℕ) → a ≡ number_in s ra → b ≡ number_in s rb
      → FindsHeld 1 old new (applied_trees op (known_tree old a) (known_tree old b)) v
      → HoldsBehind o old s (Alu op rd ra rb) new (with_number s rd v)
  unfolding held_behind
  alu-behind op rd ra rb a b v left right h =
      let first : tree_held (sym_of old s) ra ≡ known_tree old a = tree_held-sym old s ra
      ∙ ap (known_tree old) (sym left) in
      let second : tree_held (sym_of old s) rb ≡ known_tree old b = tree_held-sym old s rb
      ∙ ap (known_tree old) (sym right) in
      register_behind (Alu op rd ra rb) rd 1 (applied_trees op (known_tree old a) (known_tree old b)) v
      (ap (λ (t : Option Value). hold_tree (sym_of old s) rd (applied_trees op t (tree_held (sym_of old s) rb))) first
      ∙ ap (λ (t : Option Value). hold_tree (sym_of old s) rd (applied_trees op (known_tree old a) t)) second)
      (omega arith) h

  pub ldw-behind : (rd k ro : ℕ) (b : Slot) (place v : Option ℕ) → b ≡ slot_at s k → place ≡ number_in s ro
      → FindsHeld 3 old new (word_held o (slot_of old b) (known_tree old place)) v
      → HoldsBehind o old s (Ldw rd k ro) new (with_number s rd v)
  unfolding held_behind
  ldw-behind rd k ro b place v at reads h =
      let bound : tree_held (sym_of old s) ro ≡ known_tree old place = tree_held-sym old s ro
      ∙ ap (known_tree old) (sym reads) in
      register_behind (Ldw rd k ro) rd 3 (word_held o (slot_of old b) (known_tree old place)) v
      (ap (λ (x : SymSlot). hold_tree (sym_of old s) rd (word_held o x (tree_held (sym_of old s) ro)))
      (slot_held-sym old s k ∙ ap (slot_of old) (sym at))
      ∙ ap (λ (t : Option Value). hold_tree (sym_of old s) rd (word_held o (slot_of old b) t)) bound)
      (omega arith) h

  pub ldb-behind : (k bank r most : ℕ) (v : Option ℕ) (b : Slot) → v ≡ number_in s r
      → slot_loaded o bank (known_tree old v) ≡ slot_of new b → most ≤ 4 → TableGains most old new
      → NumberedSlotFits (length new) b → HoldsBehind o old s (Ldb k bank r) new (with_known_slot s k b)
  unfolding held_behind
  ldb-behind k bank r most v b reads is le gains hb =
      let t : tree_held (sym_of old s) r ≡ known_tree old v = tree_held-sym old s r
      ∙ ap (known_tree old) (sym reads) in
      let to : hold_slot (sym_of old s) k (slot_loaded o bank (tree_held (sym_of old s) r))
      ≡ sym_of new (with_known_slot s k b) =
      ap (hold_slot (sym_of old s) k) (ap (slot_loaded o bank) t ∙ is)
      ∙ ap (λ (u : SymState). hold_slot u k (slot_of new b)) (sym (sym_of-keeps old new gains.keeps s fits))
      ∙ sym_of-slot new s k b in
      record {
        is = sym to;
        gains = gains-more most 4 old new le gains;
        fits = state_fits-slot (length new) s k b
            (state_fits-more (length old) (length new) s (keeps-longer old new gains.keeps) fits) hb;
      }

-- a read of the number of a slot's block adds no value
pub idb-behind : (o : Parts) (nodes : List Node) (s : RegionState) → IsTable nodes → StateFits (length nodes) s
    → (rd k : ℕ) (b : Slot) (v : Option ℕ) → b ≡ slot_at s k → known_tree nodes v ≡ block_held (slot_of nodes b)
    → NumberFits (length nodes) v → HoldsBehind o nodes s (Idb rd k) nodes (with_number s rd v)
unfolding held_behind
idb-behind o nodes s table fits rd k b v at is small =
    register_behind o nodes nodes s fits (Idb rd k) rd 0 (block_held (slot_of nodes b)) v
    (ap (λ (x : SymSlot). hold_tree (sym_of nodes s) rd (block_held x))
    (slot_held-sym nodes s k ∙ ap (slot_of nodes) (sym at))) (omega arith)
    (record { gains = gains-own nodes table; held_is = is; fits = small })

-- the block to which a load binds its slot
pub oram-loaded : (o : Parts) (bank : ℕ) (t : Option Value) → 2 ≤ bank → slot_loaded o bank t ≡ OramSlot bank
oram-loaded o bank t le =
    let ram : bank == 0 ≡ false = ne_eqb bank 0 (λ e. omega arith) in
    let eram : bank == 1 ≡ false = ne_eqb bank 1 (λ e. omega arith) in
    rw (ram, eram) refl

any_by : (o : Parts) (bank : ℕ) (ram eram : Bool) → bank == 0 ≡ ram → bank == 1 ≡ eram → bank < 2
    → slot_loaded o bank None ≡ AnySlot
any_by o bank true eram is is' lt = rw is refl
any_by o bank false true is is' lt = rw (is, is') refl
any_by o bank false false is is' lt = absurd (omega (arith, eqb-false bank 0 is, eqb-false bank 1 is'))

pub any-loaded : (o : Parts) (bank : ℕ) → bank < 2 → slot_loaded o bank None ≡ AnySlot
any-loaded o bank lt = any_by o bank (bank == 0) (bank == 1) refl refl lt

pub ram-loaded : (o : Parts) (bank : ℕ) (t : Value) → bank ≡ 0
    → slot_loaded o bank (Some t) ≡ RamSlot (named_block o bank t) Loaded
ram-loaded o bank t zero =
    let is : bank == 0 ≡ true = eq-eqb bank 0 zero in
    rw is refl

pub eram-loaded : (o : Parts) (bank : ℕ) (t : Value) → bank ≡ 1
    → slot_loaded o bank (Some t) ≡ EramSlot (named_block o bank t)
eram-loaded o bank t one =
    let ram : bank == 0 ≡ false = ne_eqb bank 0 (λ e. omega arith) in
    let eram : bank == 1 ≡ true = eq-eqb bank 1 one in
    rw (ram, eram) refl
