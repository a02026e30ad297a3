use Rattle.std.proofs.Common.{map, ◌∙◌}
use Rattle.gr_base.specs.Prelude.{found_under}
use Rattle.procs_tree.specs.Prelude.{block_of_all, procedure_of}
use Rattle.procs_tree.proofs.Measured.{same_block}
use Rattle.procs_tree.proofs.sizes.block_size.Goals as goal

pub returns : goal.returns
returns c =
    c.block_count.ensures
    ∙ same_block (map procedure_of c.args.procs.now) c.args.sizes.now c.args.callable c.requires.sizes
    (found_under c.args.numbers.now) c.requires.numbers
    (block_of_all c.args.statements.now)
