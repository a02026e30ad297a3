use Rattle.std.proofs.Common.{ℕ, Result, map, reverse, sym, ap, ◌∙◌}
use Rattle.gr_base.specs.Prelude.{found_under, ◌>>=◌}
use Rattle.procs_tree.specs.declared.errors.InlineError.{InlineError}
use Rattle.procs_tree.specs.Prelude.{calls_walked_all, procedure_named, block_of_all, procedure_of}
use Rattle.procs_tree.proofs.CallsWalked.{all_called}
use Rattle.procs_tree.proofs.call_faults.walk_file.Goals as goal

pub returns : goal.returns
returns c =
    let ps = map procedure_of c.args.procs.now in
    let b = block_of_all c.args.body.now in
    c.walk_block.ensures
    ∙ (ap (λ called. calls_walked_all called c.in_ok-n.n b)
    (all_called c.args.procs.now (found_under c.args.numbers.now) c.requires)
    ∙ ap (λ (r : Result ℕ InlineError). r >>= λ n. calls_walked_all (procedure_named (reverse ps)) n b)
    (sym (sym c.walk_procedures.ensures ∙ c.in_ok-n.was)))
