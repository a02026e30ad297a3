use Rattle.std.proofs.Common.{◌≡◌, map, take, reverse}
use Rattle.std.proofs.lemmas.Result.{on_ok_weaker}
use Rattle.src_procs.specs.declared.scopes.Naming.TheVariants.{Bound}
use Rattle.procs_tree.specs.Prelude.{procedure_of}
use Rattle.procs_pruning.specs.Prelude.{placed_of, trees_seen}
use Rattle.src_procs.specs.Prelude.{with_locals, with_scope, with_kept, binding_of, held_of, names_of, scope_of, unbound}
use Rattle.src_procs.proofs.NeededBindings.{begun_so}
use Rattle.src_procs.proofs.stepping.begin_call.Goals as goal

pub returns : goal.returns
returns c =
    let procs = c.args.procs.now in
    let held = c.args.held.now in
    let own = scope_of procs (record { callable = c.args.k; names = Bound c.in_ok-bounds.bounds }) in
    on_ok_weaker c.scoped-2.result
    (λ (last : held_of procs c.scoped-2.new.held ≡ with_scope own (held_of procs c.scoped.new.held)).
    begun_so (reverse (take c.args.k (map procedure_of procs))) (scope_of procs c.args.scope) (held_of procs held)
    (held_of procs c.scoped.new.held) (held_of procs c.scoped-2.new.held)
    (with_locals (with_kept (names_of c.args.scope.names) (unbound held.made) (map placed_of c.args.kept.now)
    (trees_seen c.args.arguments.now)) c.args.locals.now) (binding_of c.in_ok-bounds.bounds c.bound_names.new.made)
    c.in_ok-bounds.ensures c.in_ok-scoped.ensures last) c.scoped-2.ensures
