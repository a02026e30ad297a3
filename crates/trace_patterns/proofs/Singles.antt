-- The result of one instruction of an arm: only a branch opens a region.
use Rattle.std.proofs.Common.{◌≡◌, ℕ, ℤ, Bool, true, false, Option, Some, None, refl, ap, subst}
use Rattle.std.specs.Prelude.{if◌then◌else◌}
use Rattle.gr_word.specs.declared.operations.Cmp.{Cmp}
use Rattle.lt_isa.specs.declared.instructions.Instr.{Instr}
use Rattle.lt_isa.specs.declared.instructions.Instr.TheVariants.{Nop, Halt, Li, Alu, Ldb, Stb, Idb, Ldw, Stw, Jmp, Br}
use Rattle.lt_isa.specs.Prelude.{Parts, is_ram, is_eram}
use Rattle.symbolic_values.specs.Prelude.{Value}
use Rattle.trace_patterns.specs.Prelude.{SymSlot, AnySlot, RamSlot, EramSlot, OramSlot, SymState, tree_held, slot_held, Single, Refuses, Goes, Branches, at_tree, loads, stores, if_bound, if_stored, single}

-- an instruction that opens no region
abbrev NoBranch : Single → Type 0
NoBranch (Refuses reason) = Unit {0}
NoBranch (Goes pattern state) = Unit {0}
NoBranch (Branches offset) = ⊥

no_branch_if : (c : Bool) (x y : Single) → NoBranch x → NoBranch y → NoBranch (if c then x else y)
no_branch_if true x y hx hy = hx
no_branch_if false x y hx hy = hy

no_branch_tree : (t : Option Value) (go : Value → Single) → ((u : Value) → NoBranch (go u)) → NoBranch (at_tree t go)
no_branch_tree None go h = tt
no_branch_tree (Some t) go h = h t

no_branch_stored : (s : SymState) (bound : SymSlot) → NoBranch (stores s bound)
no_branch_stored s AnySlot = tt
no_branch_stored s (RamSlot block origin) = tt
no_branch_stored s (EramSlot block) = tt
no_branch_stored s (OramSlot bank) = tt

no_branch_bound : (bound : SymSlot) (go : Single) → NoBranch go → NoBranch (if_bound bound go)
no_branch_bound AnySlot go h = tt
no_branch_bound other go h = h

no_branch_word : (bound : SymSlot) (go : Single) → NoBranch go → NoBranch (if_stored bound go)
no_branch_word AnySlot go h = tt
no_branch_word (RamSlot block origin) go h = tt
no_branch_word (EramSlot block) go h = h
no_branch_word (OramSlot bank) go h = h

pub record IsBranch (i : Instr) (offset : ℤ) : Type 0 where
  pub cmp : Cmp
  pub ra : ℕ
  pub rb : ℕ
  pub is : i ≡ Br cmp ra rb offset

no : {A : Type 0} (made : Single) (offset : ℤ) → NoBranch made → made ≡ Branches offset → A
no made offset h e = absurd (subst NoBranch e h)

-- only a branch opens a region
pub single-branches : (o : Parts) (s : SymState) (i : Instr) (offset : ℤ) → single o s i ≡ Branches offset
    → IsBranch i offset
unfolding single
single-branches o s (Ldb k bank r) offset e =
    no (loads o s k bank r) offset
    (no_branch_if (is_ram bank) _ _ (no_branch_tree (tree_held s r) _ (λ t. tt))
    (no_branch_if (is_eram bank) _ _ (no_branch_tree (tree_held s r) _ (λ t. tt)) tt)) e
single-branches o s (Stb k) offset e = no _ offset (no_branch_stored s (slot_held s k)) e
single-branches o s (Idb rd k) offset e = no _ offset (no_branch_bound (slot_held s k) _ tt) e
single-branches o s (Ldw rd k ro) offset e = no _ offset (no_branch_bound (slot_held s k) _ tt) e
single-branches o s (Stw rs k ro) offset e = no _ offset (no_branch_word (slot_held s k) _ tt) e
single-branches o s (Br cmp ra rb by) offset e =
    let f : ◌≡◌ {A = Single} (Branches by) (Branches offset) = e in
    let same : by ≡ offset = cc in
    record { cmp = cmp; ra = ra; rb = rb; is = ap (Br cmp ra rb) same }
single-branches o s other offset e = no _ offset tt e

-- a branch opens a region
pub branch-single : (o : Parts) (s : SymState) (cmp : Cmp) (ra rb : ℕ) (offset : ℤ)
    → single o s (Br cmp ra rb offset) ≡ Branches offset
unfolding single
branch-single o s cmp ra rb offset = refl
