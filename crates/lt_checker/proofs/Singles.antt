-- What holds for an instruction of an arm if it continues.
use Rattle.std.proofs.Common.{◌≡◌, ℕ, Bool, true, false, Option, Some, None, refl, subst}
use Rattle.std.specs.Prelude.{if◌then◌else◌}
use Rattle.symbolic_values.specs.Prelude.{Value}
use Rattle.trace_patterns.specs.Prelude.{Shown, TreeEvent, EncWrite, Oram, SymSlot, AnySlot, RamSlot, EramSlot, OramSlot, SymState, Single, Refuses, Goes, Branches, event, at_tree, stores, if_bound, if_stored}

-- a property of what an instruction shows and leaves, if it continues
abbrev pub OnSingle : (Shown TreeEvent → SymState → Type 0) → Single → Type 0
OnSingle P (Refuses reason) = Unit {0}
OnSingle P (Goes pattern state) = P pattern state
OnSingle P (Branches offset) = Unit {0}

-- the property holds of what an instruction that continues shows and leaves
pub on_single : (P : Shown TreeEvent → SymState → Type 0) (made : Single) (pattern : Shown TreeEvent) (state : SymState)
    → OnSingle P made → made ≡ Goes pattern state → P pattern state
on_single P made pattern state h e = subst (OnSingle P) e h

-- a slot about which something is known
abbrev pub IsKnown : SymSlot → Type 0
IsKnown AnySlot = ⊥
IsKnown other = Unit {0}

-- a slot whose block an arm may store
abbrev pub IsHidden : SymSlot → Type 0
IsHidden AnySlot = ⊥
IsHidden (RamSlot block origin) = ⊥
IsHidden (EramSlot block) = Unit {0}
IsHidden (OramSlot bank) = Unit {0}

module _ (P : Shown TreeEvent → SymState → Type 0) where
  -- with a test
  pub on_if : (c : Bool) (x y : Single) → (c ≡ true → OnSingle P x) → (c ≡ false → OnSingle P y)
      → OnSingle P (if c then x else y)
  on_if true x y hx hy = hx refl
  on_if false x y hx hy = hy refl

  -- with a register that must have a tree
  pub on_tree : (found : Option Value) (go : Value → Single) → ((t : Value) → found ≡ Some t → OnSingle P (go t))
      → OnSingle P (at_tree found go)
  on_tree None go h = tt
  on_tree (Some t) go h = h t refl

  -- with a slot that must be bound
  pub on_bound : (bound : SymSlot) (go : Single) → (IsKnown bound → OnSingle P go) → OnSingle P (if_bound bound go)
  on_bound AnySlot go h = tt
  on_bound other go h = h tt

  -- with a slot whose words are stored
  pub on_stored : (bound : SymSlot) (go : Single) → (IsHidden bound → OnSingle P go) → OnSingle P (if_stored bound go)
  on_stored AnySlot go h = tt
  on_stored (RamSlot block origin) go h = tt
  on_stored (EramSlot block) go h = h tt
  on_stored (OramSlot bank) go h = h tt

  -- with a slot whose block is stored
  pub on_stores : (s : SymState) (bound : SymSlot)
      → ((block : Value) → bound ≡ EramSlot block → P (event (EncWrite block)) s)
      → ((bank : ℕ) → bound ≡ OramSlot bank → P (event (Oram bank)) s) → OnSingle P (stores s bound)
  on_stores s AnySlot enc oram = tt
  on_stores s (RamSlot block origin) enc oram = tt
  on_stores s (EramSlot block) enc oram = enc block refl
  on_stores s (OramSlot bank) enc oram = oram bank refl
