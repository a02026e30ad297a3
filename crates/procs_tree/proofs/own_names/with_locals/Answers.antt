use Rattle.std.proofs.Common.{ℕ, ◌+◌, ◌++◌, List, ◌∷◌, drop, map, sym, ap}
use Rattle.src_tree.specs.declared.trees.Decl.{Decl}
use Rattle.procs_tree.specs.Prelude.{local_name, names_seen}
use Rattle.procs_tree.proofs.Appended.{one_appended}
use Rattle.procs_tree.proofs.own_names.with_locals.Goals as goal

pub loop-local-preserved : goal.loop-local-preserved
loop-local-preserved c =
    let rest = map local_name (drop (c.loop-local.local-index + 1) c.args.locals.now) in
    one_appended (λ (ds : List Decl). map local_name ds) c.args.locals.now c.loop-local.local-index c.local-item.result
    c.bytes.result.now (names_seen c.loop-local.names.items) (names_seen c.add_bytes.new.names.items)
    (names_seen c.args.names.items ++ map local_name c.args.locals.now) c.loop-local-test.true c.local-item.is
    (ap (λ (x : List ℕ). x ∷ rest) (sym c.bytes.ensures.bytes)) c.in_ok-add_bytes.ensures c.loop-local.invariant
