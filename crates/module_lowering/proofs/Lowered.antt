-- The core program that a module becomes does what the module means: the laws of all passes, composed.
use Rattle.std.proofs.Common.{ℕ, ◌≤◌, Bool, true, List, length, Option, Some, None, refl, sym, ◌∙◌, arith}
use Rattle.std.specs.Option.{option_map}
use Rattle.src_tree.specs.declared.trees.Decl.{Decl}
use Rattle.src_tree.specs.Prelude.{Left, words_of_number}
use Rattle.module_tree.specs.Memory.{Memory}
use Rattle.module_tree.specs.Trees.{Module}
use Rattle.module_tree.specs.Meaning.{module_meaning}
use Rattle.module_calls.specs.Rules.{ObeysRules}
use Rattle.module_calls.specs.Promise.{LeaveAlike, flattened}
use Rattle.module_calls.proofs.Whole.{flattened_meaning}
use Rattle.flat_tree.specs.Trees.{Term, Statement}
use Rattle.flat_tree.specs.Meaning.{State, run}
use Rattle.flat_tree.specs.Keeps.{Alike, Keeps}
use Rattle.flat_tree.proofs.Agreeing.{agree_same}
use Rattle.flat_tree.proofs.Keeping.{keeps_then}
use Rattle.flat_tree.proofs.Bounds.{all_below}
use Rattle.flat_passes.specs.Conditions.{conditions}
use Rattle.flat_passes.proofs.SameConditions.{conditions_keep}
use Rattle.flat_passes.specs.Values.{values}
use Rattle.flat_passes.proofs.KeptValues.{values_keep}
use Rattle.flat_core.specs.Promise.{LeftAlike}
use Rattle.flat_core.proofs.Running.{core_keeps}
use Rattle.module_lowering.specs.Lowering.{above, prepared}
use Rattle.module_lowering.specs.Naming.{single_at, SetsScalars}
use Rattle.module_lowering.specs.Shape.{NamesTheRest}
use Rattle.module_lowering.specs.Promise.{Computes, BothSpent, BothLeft, Declares, locals_of, Lowers}
use Rattle.module_lowering.proofs.Shapes.{prepared_shape}
use Rattle.module_lowering.proofs.InlinedScopes.{flattened_scoped}
use Rattle.flat_tree.specs.Keeps as flat
use Rattle.module_calls.specs.Promise as calls
use Rattle.flat_core.specs.Promise as core

pub prepared_keeps : (light : Statement → Bool) (needs_name : Term → Bool) (n : ℕ) (s : Statement)
    → Keeps (above n s) s (prepared light needs_name n s)
prepared_keeps light needs_name n s =
    let first = conditions light s in
    let p = above (above n s) first in
    let second = values needs_name p first in
    let q = above p second in
    keeps_then (omega arith)
    (conditions_keep light (above n s) s (all_below (above n s) s (omega arith)))
    (keeps_then {n = p} {p = q} (omega arith) (values_keep needs_name p first (all_below p first (omega arith)))
    (conditions_keep (λ t. true) q second (all_below q second (omega arith))))

three : (all n : ℕ) → all ≤ n → (m : Option Memory) (r q : Option State) (t : Option Left) → LeaveAlike all m r → Alike n r q
    → LeftAlike all q t → Computes all m (option_map (λ (l : Left). l.store) t)
three all n le None None None None calls.BothSpent flat.BothSpent core.BothSpent = BothSpent
three all n le None None None (Some t) a b c = elim c [ ]
three all n le None None (Some q) t a b c = elim b [ ]
three all n le None (Some r) q t a b c = elim a [ ]
three all n le (Some m) None q t a b c = elim a [ ]
three all n le (Some m) (Some r) None t a b c = elim b [ ]
three all n le (Some m) (Some r) (Some q) None a b c = elim c [ ]
three all n le (Some m) (Some r) (Some q) (Some t) (calls.BothLeft a) (flat.BothLeft same b) (core.BothLeft also c) =
    BothLeft (record {
      same = λ k lt. c.same k lt ∙ sym (b.same k (omega (arith, le, lt))) ∙ sym (a.same k lt);
    })

pub lowers : (light : Statement → Bool) (needs_name : Term → Bool) (decls : List Decl) (name : ℕ → List ℕ)
    (m : Module) (main : List ℕ) → NamesTheRest needs_name → ObeysRules m → SetsScalars m
    → Declares decls name (length m.items) (locals_of light needs_name m main)
    → Lowers light needs_name decls name m main
lowers light needs_name decls name m main plain obeys sets named inputs turns store only agrees sized =
    let all = length m.items in
    let l : Memory = λ k. words_of_number store k in
    let s = flattened m main in
    let is_scalar = single_at m.items in
    three all (above all s) (omega arith) (module_meaning m main inputs turns) (run s l turns)
    (run (prepared light needs_name all s) l turns) _
    (flattened_meaning m main obeys inputs turns l only (record { same = λ k lt. sym (agrees.same k lt) }))
    ((prepared_keeps light needs_name all s).alike l l turns (agree_same _ l))
    (core_keeps decls all (locals_of light needs_name m main) name is_scalar named (prepared light needs_name all s)
    (prepared_shape all is_scalar needs_name plain light all s (flattened_scoped m main sets)) l store turns
    (record { same = λ k lt. refl }) sized)
