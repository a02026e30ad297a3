-- The first assignments and the inlined `main` do what the module means.
use Rattle.std.proofs.Common.{ℕ, List, length, sym, ap, subst}
use Rattle.std.specs.Option.{option_and_then}
use Rattle.module_tree.specs.Trees.{Module}
use Rattle.module_tree.specs.Meaning.{module_meaning}
use Rattle.flat_tree.specs.Meaning.{onward, run}
use Rattle.module_calls.specs.Tails.{tailed}
use Rattle.module_calls.specs.Rules.{pure_in, ObeysRules}
use Rattle.module_calls.specs.Inlining.{inlined}
use Rattle.module_calls.specs.Promise.{LeaveAlike, flattened, FlattensMeaning}
use Rattle.module_calls.proofs.Tailed.{tailed_meaning}
use Rattle.module_calls.proofs.Kept.{kept_meaning}
use Rattle.module_calls.proofs.Obeying.{module_fine}
use Rattle.module_calls.proofs.FirstSet.{first_done}

pub flattened_meaning : (m : Module) (main : List ℕ) → ObeysRules m → FlattensMeaning m main
flattened_meaning m main obeys inputs turns l only a =
    let all = length m.items in
    let first = first_done m.items inputs l only a in
    subst (λ means. LeaveAlike all means (run (flattened m main) l turns)) (tailed_meaning m main inputs turns)
    (subst (λ r. LeaveAlike all (module_meaning (tailed m) main inputs turns) r)
    (sym (ap (option_and_then (onward (run (inlined (tailed m) main)))) (first.done turns)))
    (kept_meaning (pure_in m) (tailed m) main (module_fine (pure_in m) m obeys) inputs turns first.after first.start))
