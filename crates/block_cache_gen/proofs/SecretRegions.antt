-- A branch on a secret in an arm, whose own two paths show the same events and leave the same in the slots.
use Rattle.std.proofs.Common.{◌≡◌, ℕ, ◌+◌, ◌<◌, pos, List, length, Option, sym, ◌∙◌}
use Rattle.std.specs.Option.{unwrap_or}
use Rattle.gr_word.specs.declared.operations.Cmp.{Cmp}
use Rattle.lt_isa.specs.declared.instructions.Instr.{Instr}
use Rattle.lt_isa.specs.Prelude.{Parts}
use Rattle.symbolic_values.specs.Prelude.{Value}
use Rattle.trace_patterns.specs.Prelude.{most_regions, CrossesTo, untaken_way, taken_way, SymSlot, SymState, tree_held, slot_held, common_tree, common_slot, common}
use Rattle.stretches.specs.Prelude.{Show, pattern_of, StandsInArm}
use Rattle.trace_patterns.proofs.SymStateLaws.{IsSized, tree-common, slot-common, sized-common, own_tree, own_slot}
use Rattle.stretches.proofs.ArmRegions.{region_code, region-crosses, walked-region}
use Rattle.block_cache_gen.specs.Prelude.{Setting, CarriesInArm, held_tree, Loads}
use Rattle.block_cache_gen.proofs.ArmStates.{carries-slots}
use Rattle.block_cache_gen.proofs.ArmAssignments.{Goes}

-- a state that carries a setting has as many registers and slots as the machine
pub carries-sized : (f : Setting) (s : SymState) → CarriesInArm f s → IsSized s
carries-sized f s carries = record { registers = carries.registers; slots = carries.slots }

-- where two states hold the same in a slot, so does what both leave
common-held : (left right : SymState) (k : ℕ) (bound : SymSlot) → slot_held left k ≡ bound → slot_held right k ≡ bound
    → slot_held (common left right) k ≡ bound
common-held left right k bound one other =
    slot-common left right k ∙ (λ i. common_slot (one i) (other i)) ∙ own_slot bound

-- the same of a register
common-tree : (left right : SymState) (r : ℕ) (tree : Option Value) → tree_held left r ≡ tree → tree_held right r ≡ tree
    → tree_held (common left right) r ≡ tree
common-tree left right r tree one other =
    tree-common left right r ∙ (λ i. common_tree (one i) (other i)) ∙ own_tree tree

module _ (o : Parts) (f : Setting) (depth : ℕ) (s : SymState) (cmp : Cmp) (ra rb : ℕ) (first second : List Instr)
    (xs ys shows : List Show) (loads : Loads) (around : depth < most_regions)
    (one : Goes o f (depth + 1) s first xs loads) (other : Goes o f (depth + 1) s second ys loads)
    (one_way : untaken_way o (pattern_of xs) ≡ pattern_of shows)
    (other_way : taken_way o (pattern_of ys) ≡ pattern_of shows) where
  -- what the loads of both arms left is in the slots there
  pub joined-slots : (k : ℕ) → slot_held (common one.state other.state) k ≡ unwrap_or (loads k) (slot_held s k)
  joined-slots k =
      common-held one.state other.state k (unwrap_or (loads k) (slot_held s k)) (one.slots k) (other.slots k)

  -- the region is crossed
  pub region-crossed : (p : ℕ) → StandsInArm o p (region_code cmp ra rb first second)
      → CrossesTo o depth (p + length (region_code cmp ra rb first second)) p (pos (length first + 2)) s
      (pattern_of shows) (p + length (region_code cmp ra rb first second)) (common one.state other.state)
  region-crossed p =
      region-crosses o depth around s cmp ra rb first second xs ys shows one.state other.state one.walked other.walked
      one_way other_way p

  -- the setting is carried at the join of the region
  pub joined-carries : CarriesInArm f (common one.state other.state)
  joined-carries =
      let sized = sized-common one.state other.state (carries-sized f one.state one.carries)
      (carries-sized f other.state other.carries) in
      carries-slots f one.state (common one.state other.state) one.carries (λ k. joined-slots k ∙ sym (one.slots k))
      (λ r label is.
      common-tree one.state other.state r (held_tree r label) (one.carries.held r label is)
      (other.carries.held r label is)
      ∙ sym (one.carries.held r label is))
      sized.registers sized.slots

  -- so it continues there
  pub goes-region : Goes o f depth s (region_code cmp ra rb first second) shows loads
  goes-region = record {
    state = common one.state other.state;
    walked = walked-region o depth around s cmp ra rb first second xs ys shows one.state other.state one.walked
        other.walked one_way other_way;
    carries = joined-carries;
    slots = joined-slots;
  }
