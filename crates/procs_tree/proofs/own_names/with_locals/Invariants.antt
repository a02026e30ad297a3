use Rattle.std.proofs.Common.{◌≡◌, ◌++◌, drop, map}
use Rattle.procs_tree.specs.Prelude.{local_name, names_seen}
use Rattle.procs_tree.proofs.own_names.with_locals.Given as goal

abbrev pub invariant-loop-local : goal.invariant-loop-local
invariant-loop-local l =
    names_seen l.names.items ++ map local_name (drop l.local-index l.locals)
    ≡ names_seen l.fn.names.items ++ map local_name l.locals
