use Rattle.std.proofs.Common.{ℕ, ◌+◌, ◌++◌, List, ◌∷◌, drop, map, sym, ap}
use Rattle.procs_tree.specs.declared.trees.Param.{Param}
use Rattle.procs_tree.specs.Prelude.{names_seen, parameter_name, parameter_of}
use Rattle.procs_tree.proofs.Appended.{one_appended}
use Rattle.procs_tree.proofs.own_names.with_parameters.Goals as goal

pub loop-param-preserved : goal.loop-param-preserved
loop-param-preserved c =
    let rest = map parameter_name (map parameter_of (drop (c.loop-param.param-index + 1) c.args.params.now)) in
    one_appended (λ (ps : List Param). map parameter_name (map parameter_of ps)) c.args.params.now
    c.loop-param.param-index c.param-item.result c.parameter_name.result.now (names_seen c.loop-param.names.items)
    (names_seen c.add_bytes.new.names.items)
    (names_seen c.args.names.items ++ map parameter_name (map parameter_of c.args.params.now)) c.loop-param-test.true
    c.param-item.is (ap (λ (x : List ℕ). x ∷ rest) (sym c.parameter_name.ensures)) c.in_ok-add_bytes.ensures
    c.loop-param.invariant
