-- What the check knows at code of a setting: the banks of the slots that the code relies on. (GhostRider, ASPLOS 2015:
-- the security types of L_T; this project's layout of compiled code.)
use Rattle.std.specs.Prelude.{◌≡◌, ◌≢◌, ◌<◌, ℕ, false, List, length, Option, Some, None}
use Rattle.gr_base.specs.Lists.{Within}
use Rattle.gr_word.specs.declared.variables.Label.{Label}
use Rattle.gr_word.specs.declared.variables.Shape.TheVariants.{Array}
use Rattle.gr_word.specs.declared.variables.Label.TheVariants.{Public, Secret}
use Rattle.symbolic_values.specs.Trees.{Value, Reg, SlotAt}
use Rattle.src_tree.specs.Labels.{secret_label}
use Rattle.src_tree.specs.Contexts.{context_of}
use Rattle.trace_patterns.specs.Known.{Known, bank_known, is_secret}
use Rattle.trace_patterns.specs.SymStates.{SymState, RamSlot, Entry, tree_held, slot_held, slot_bank}
use Rattle.block_cache_gen.specs.Homes.{Pin, Setting, held_label, pin_at, home_of}

-- in public code, where something is known of as many registers and slots as the machine has: each pinned slot has the
-- bank of its block, slots 2 to 5 the banks of the arrays that they serve in turn, and each register that holds a scalar
-- or a number its label
-- why: as many registers and slots as the machine has; otherwise a walk from there wouldn't preserve it.
pub record Carries (f : Setting) (known : Known) : Type 0 where
  pub registers : length known.secret ≡ 32
  pub slots : length known.banks ≡ 8
  pub pinned : (slot : ℕ) (p : Pin) → pin_at f slot ≡ Some p → slot < 8 → slot ≢ 6
      → bank_known known slot ≡ Some p.bank
  pub arrays : (x : List ℕ) (label : Label) → context_of f.decls x ≡ Some (label, Array)
      → (home_of f x).resident ≡ false → Within 2 5 (home_of f x).slot
      → bank_known known (home_of f x).slot ≡ Some (home_of f x).bank
  pub held : (r : ℕ) (label : Label) → held_label f r ≡ Some label → is_secret known r ≡ secret_label label

-- the tree in an arm of a register with a label for the whole run: the register itself if it is public
abbrev pub held_tree : ℕ → Label → Option Value
held_tree r Public = Some (Reg r)
held_tree r Secret = None

-- in an arm of a branch on a secret: the same of a state of as many registers and slots as the machine has, and a
-- pinned slot of plain memory still holds what it held at the entry
pub record CarriesInArm (f : Setting) (s : SymState) : Type 0 where
  pub registers : length s.registers ≡ 32
  pub slots : length s.slots ≡ 8
  pub plain : (slot : ℕ) (p : Pin) → pin_at f slot ≡ Some p → slot < 8 → slot ≢ 6 → p.bank ≡ 0
      → slot_held s slot ≡ RamSlot (SlotAt slot) (Entry slot)
  pub pinned : (slot : ℕ) (p : Pin) → pin_at f slot ≡ Some p → slot < 8 → slot ≢ 6
      → slot_bank (slot_held s slot) ≡ Some p.bank
  pub arrays : (x : List ℕ) (label : Label) → context_of f.decls x ≡ Some (label, Array)
      → (home_of f x).resident ≡ false → Within 2 5 (home_of f x).slot
      → slot_bank (slot_held s (home_of f x).slot) ≡ Some (home_of f x).bank
  pub held : (r : ℕ) (label : Label) → held_label f r ≡ Some label → tree_held s r ≡ held_tree r label
