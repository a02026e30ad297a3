-- Statements as a block, the first and those after it.
use Rattle.std.proofs.Common.{◌≡◌, false, List, [], ◌∷◌, length, drop, get_or, ap, ◌∙◌}
use Rattle.std.specs.Prelude.{◌==◌}
use Rattle.procs_pruning.specs.declared.live.Live.{Live}
use Rattle.procs_tree.specs.Prelude.{Then}
use Rattle.procs_pruning.specs.Prelude.{live_block, live_of}

pub whole_block : (statements : List Live) (s : Live) (others : List Live) → false ≡ (length statements == 0)
    → s ≡ get_or statements 0 s → others ≡ drop 1 statements
    → Then (live_of s) (live_block others) ≡ live_block statements
whole_block [] s others some is behind = absurd (cc)
whole_block (x ∷ xs) s others some is behind =
    ap (λ (z : Live). Then (live_of z) (live_block others)) is
    ∙ ap (λ (zs : List Live). Then (live_of x) (live_block zs)) behind
