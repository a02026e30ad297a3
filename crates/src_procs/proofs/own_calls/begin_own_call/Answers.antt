use Rattle.std.proofs.Common.{◌≤◌, List, length, map, reverse, take, ap, ◌∙◌, arith}
use Rattle.src_tree.specs.declared.trees.Decl.{Decl}
use Rattle.src_procs.specs.declared.scopes.Naming.TheVariants.{Bound}
use Rattle.procs_tree.specs.declared.trees.Param.{Param}
use Rattle.procs_tree.specs.Prelude.{kept_name, parameter_of, procedure_of, trees_of}
use Rattle.src_procs.specs.Prelude.{with_locals, with_parameters, binding_of, held_of, scope_of, unbound}
use Rattle.src_procs.proofs.OwnCalls.{own_begun, own_scoped}
use Rattle.src_procs.proofs.own_calls.begin_own_call.Goals as goal

pub returns : goal.returns
returns c =
    let procs = c.args.procs.now in
    let p = c.args.p.now in
    let es = trees_of c.args.arguments.items in
    let all : length procs ≤ length procs = omega arith in
    let b = binding_of c.in_ok-bounds.bounds c.own_bounds.new.made in
    own_begun procs (procedure_of p) (reverse (take c.args.k (map procedure_of procs))) es c.args.made b
    (held_of procs c.scoped-2.new.held)
    (c.in_ok-bounds.ensures
    ∙ (ap (λ (qs : List Param). with_locals (with_parameters kept_name (unbound c.args.made) (map parameter_of qs) es)
    c.as_slice-2.result.now) c.as_slice.ensures.value
    ∙ ap (λ (ds : List Decl). with_locals (with_parameters kept_name (unbound c.args.made)
    (map parameter_of p.params.items) es) ds) c.as_slice-2.ensures.value))
    (own_scoped procs (length procs) c.new.result.items c.own_bounds.new.made
    (scope_of procs (record { callable = c.args.k; names = Bound c.in_ok-bounds.bounds }))
    (held_of procs c.scoped.new.held) (held_of procs c.scoped-2.new.held) all c.new.ensures.items
    c.in_ok-scoped.ensures c.in_ok-scoped-2.ensures)
