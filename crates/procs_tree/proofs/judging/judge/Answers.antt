use Rattle.std.proofs.Common.{◌≡◌, List, length, map, reverse, sym, ap, ◌∙◌, arith}
use Rattle.std.proofs.lemmas.List.{length-map, take_all}
use Rattle.src_tree.specs.Prelude.{shown_number}
use Rattle.procs_tree.specs.Prelude.{block_of_all, procedure_of, sizes_of, size_of_all, file_size, Procedure, bare_file}
use Rattle.procs_tree.proofs.Judged.{by_size, by_nothing}
use Rattle.procs_tree.proofs.judging.judge.Goals.{After-block_size}
use Rattle.procs_tree.proofs.judging.judge.Goals as goal

sized : (c : After-block_size)
    → c.block_size.result ≡ shown_number (file_size (bare_file c.args.procs.now c.args.body.now))
sized c =
    let long = length-map c.args.procs.now procedure_of in
    c.block_size.ensures
    ∙ ap (λ (ps : List Procedure). shown_number (size_of_all (sizes_of (reverse ps)) (block_of_all c.args.body.now)))
    (take_all (length c.args.procs.now) (map procedure_of c.args.procs.now) (omega (arith, long)))

pub returns-then-block_size-gt-MAX_STATEMENTS-clause-refused :
    goal.returns-then-block_size-gt-MAX_STATEMENTS-clause-refused
returns-then-block_size-gt-MAX_STATEMENTS-clause-refused c =
    by_size (bare_file c.args.procs.now c.args.body.now) c.in-Ok.field-0 c.block_size.result
    (sym c.in-None.is ∙ c.in_ok-fault.ensures) c.in-Ok.ensures
    (sized (goal.at.returns-then-block_size-gt-MAX_STATEMENTS-clause-refused c).After-block_size)
    c.if-block_size-gt-MAX_STATEMENTS.true

pub returns-clause-faultless : goal.returns-clause-faultless
returns-clause-faultless c =
    by_nothing (bare_file c.args.procs.now c.args.body.now) c.in-Ok.field-0 c.block_size.result
    (sym c.in-None.is ∙ c.in_ok-fault.ensures) c.in-Ok.ensures
    (sized (goal.at.returns-clause-faultless c).After-block_size) c.if-block_size-gt-MAX_STATEMENTS.false
