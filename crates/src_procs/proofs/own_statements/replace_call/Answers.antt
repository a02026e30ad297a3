use Rattle.std.proofs.Common.{◌≡◌, ◌≤◌, List, length, map, ap, ◌∙◌, arith}
use Rattle.gr_base.specs.Prelude.{found_under}
use Rattle.src_tree.specs.Prelude.{shown_number}
use Rattle.src_tree.specs.declared.trees.Expr.{Expr}
use Rattle.procs_tree.specs.Prelude.{counted_call, found_before, procedure_of, trees_of}
use Rattle.src_procs.proofs.OwnSteps.{own_dead}
use Rattle.src_procs.proofs.own_statements.replace_call.Goals.{Then-size-eq0}
use Rattle.src_procs.proofs.own_statements.replace_call.Goals as goal

-- as it is counted of the arguments
sized : (c : Then-size-eq0) → c.call_size-size.result ≡ shown_number
    (counted_call c.args.sizes.now (trees_of c.args.arguments.items)
    (found_before (map procedure_of c.args.file.procs.now) (length c.args.file.procs.now)
    (found_under c.args.file.numbers.now c.args.name)))
sized c = c.call_size-size.ensures ∙ ap (λ (es : List Expr). shown_number
    (counted_call c.args.sizes.now (trees_of es)
    (found_before (map procedure_of c.args.file.procs.now) (length c.args.file.procs.now)
    (found_under c.args.file.numbers.now c.args.name)))) c.as_slice.ensures.value

pub returns-then-size-eq0 : goal.returns-then-size-eq0
returns-then-size-eq0 c =
    let all : length c.args.file.procs.now ≤ length c.args.file.procs.now = omega arith in
    own_dead c.args.file.procs.now c.args.sizes.now (length c.args.file.procs.now) c.requires.sizes
    (found_under c.args.file.numbers.now) c.requires.file.numbers c.args.name (trees_of c.args.arguments.items)
    c.call_size-size.result (sized (goal.at.returns-then-size-eq0 c).Then-size-eq0) c.if-size-eq0.true all c.args.made.now
