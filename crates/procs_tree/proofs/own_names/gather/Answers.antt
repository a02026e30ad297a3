use Rattle.std.proofs.Common.{sym, ◌∙◌, arith}
use Rattle.gr_base.specs.Prelude.{found_under}
use Rattle.procs_tree.proofs.NamesAdded.{named_twice}
use Rattle.procs_tree.proofs.own_names.gather.Goals as goal

pub returns-then-has_bytes : goal.returns-then-has_bytes
returns-then-has_bytes c =
    let test = c.loop-i-test.true in
    sym (named_twice (found_under c.loop-i.known) c.loop-i.i c.args.names.now _ (omega (arith, test))
    (sym c.if-has_bytes.ensures))
    ∙ c.loop-i.invariant
