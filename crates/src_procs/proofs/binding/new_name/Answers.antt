use Rattle.std.proofs.Common.{ap, ◌∙◌}
use Rattle.gr_word.specs.Prelude.{is_name}
use Rattle.procs_tree.proofs.NameFits.{new_name_fits}
use Rattle.src_procs.proofs.binding.new_name.Goals as goal

pub new-requires : goal.new-requires
new-requires c =
    ap is_name (c.as_slice.ensures.value ∙ c.in_ok-bytes.ensures) ∙ new_name_fits c.args.n c.ranges.n.fits
