-- The inlined `main` does with the module's variables what the module means.
use Rattle.std.proofs.Common.{ℕ, suc, Bool, true, false, if◌then◌else◌, ℤ, List, [], ◌∷◌, length, Option, Some, None, arith}
use Rattle.std.specs.Prelude.{bytes_eq}
use Rattle.std.specs.Option.{option_and_then, option_map}
use Rattle.module_tree.specs.Memory.{Memory}
use Rattle.module_tree.specs.Trees.{Item, Module, name_of}
use Rattle.module_tree.specs.Values.{Called}
use Rattle.module_tree.specs.FirstWords.{number_named, sizes_of, at_start}
use Rattle.flat_tree.specs.Trees.{Skip}
use Rattle.flat_tree.specs.Meaning.{State, onward, restored, run}
use Rattle.flat_tree.proofs.Agreeing.{agree_then, agree_new}
use Rattle.module_calls.specs.Fine.{FineModule}
use Rattle.module_calls.specs.Promise.{LeaveAlike, BothSpent, BothLeft, InliningKeeps}
use Rattle.module_calls.proofs.Places.{BelowIf}
use Rattle.module_calls.proofs.Coming.{CallComes, NoCall, OneCall}
use Rattle.module_calls.proofs.Calls.{calls_follow}
use Rattle.module_calls.proofs.Pure.{are_pure}

-- names name items
next_below : (n : ℕ) (o : Option ℕ) → BelowIf n o → BelowIf (suc n) (option_map (λ k. suc k) o)
next_below n None below = tt
next_below n (Some k) below = omega (arith, below)

numbers_below : (items : List Item) (x : List ℕ) → BelowIf (length items) (number_named items x)
numbers_below [] x = tt
numbers_below (item ∷ items) x = by (bytes_eq x (name_of item)) (numbers_below items x)
  where
    by : (b : Bool) → BelowIf (length items) (number_named items x)
        → BelowIf (suc (length items)) (if b then Some 0 else option_map (λ k. suc k) (number_named items x))
    by true rest = omega arith
    by false rest = next_below (length items) (number_named items x) rest

leaves : (all : ℕ) (l : Memory) (w : List ℤ) (c : Option Called) (q : Option State) → CallComes all all l c q
    → LeaveAlike all (option_map (λ (c : Called). c.memory) c) (option_map (restored all w) (option_and_then (onward (run Skip)) q))
leaves all l w None None NoCall = BothSpent
leaves all l w None (Some s) e = elim e [ ]
leaves all l w (Some c) None e = elim e [ ]
leaves all l w (Some c) (Some s) (OneCall turns a o is) =
    BothLeft (agree_then a (agree_new s.memory all w (omega arith)))

pub kept_meaning : (pure : List ℕ → Bool) (m : Module) (main : List ℕ) → FineModule pure m → InliningKeeps m main
kept_meaning pure m main fine inputs turns l a =
    let all = length m.items in
    let follow = calls_follow (sizes_of m.items) m pure (record { below = numbers_below m.items }) fine
    (are_pure (sizes_of m.items) m pure fine) (length m.functions) in
    leaves all l (l all) _ _
    (follow.follows main [] [] all (at_start m.items inputs) l turns (omega arith) a (λ h b. tt))
