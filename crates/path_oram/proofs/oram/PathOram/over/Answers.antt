use Rattle.std.proofs.Common.{length, sym, ap, ◌∙◌, subst, arith}
use Rattle.path_oram.specs.Prelude.{IsHeightFor, words_left}
use Rattle.path_oram.proofs.Started.{leaf_count, leaves_below, place_first, start_shown}
use Rattle.path_oram.proofs.oram.PathOram.over.Goals as goal

pub height_for-height-requires : goal.height_for-height-requires
height_for-height-requires g c = omega (arith, c.blocks-count.ensures, c.requires)

pub over-requires-clause-most : goal.over-requires-clause-most
over-requires-clause-most g c =
    omega (
      arith,
      leaf_count (g.R.Rng.stream c.args.words) (length c.args.blocks.contents) c.blocks-count.result
          c.height_for-height.result c.in_ok-leaves.leaves.items c.blocks-count.ensures c.in_ok-leaves.ensures.leaves,
      c.requires,
    )

pub over-requires-clause-height : goal.over-requires-clause-height
over-requires-clause-height g c =
    subst (λ n. IsHeightFor n c.height_for-height.result) (c.blocks-count.ensures
    ∙ sym (leaf_count (g.R.Rng.stream c.args.words) (length c.args.blocks.contents) c.blocks-count.result
    c.height_for-height.result c.in_ok-leaves.leaves.items c.blocks-count.ensures c.in_ok-leaves.ensures.leaves))
    c.height_for-height.ensures.height

pub over-requires-clause-leaves : goal.over-requires-clause-leaves
over-requires-clause-leaves g c =
    leaves_below (g.R.Rng.stream c.args.words) (length c.args.blocks.contents) c.blocks-count.result
    c.height_for-height.result c.in_ok-leaves.leaves.items c.blocks-count.ensures c.in_ok-leaves.ensures.leaves

pub over-requires-clause-count : goal.over-requires-clause-count
over-requires-clause-count g c =
    sym (leaf_count (g.R.Rng.stream c.args.words) (length c.args.blocks.contents) c.blocks-count.result
    c.height_for-height.result c.in_ok-leaves.leaves.items c.blocks-count.ensures c.in_ok-leaves.ensures.leaves)

pub returns-clause-height : goal.returns-clause-height
returns-clause-height g c =
    subst (λ n. IsHeightFor n c.in_ok-tree.tree.places.height) c.blocks-count.ensures
    (subst (λ h. IsHeightFor c.blocks-count.result h)
    (sym (ap (λ p. p.height) c.in_ok-tree.ensures.first)) c.height_for-height.ensures.height)

pub returns-clause-first : goal.returns-clause-first
returns-clause-first g c =
    place_first (g.R.Rng.stream c.args.words)
    (length c.args.blocks.contents) c.blocks-count.result c.height_for-height.result c.in_ok-leaves.leaves.items
    c.blocks-count.ensures c.in_ok-leaves.ensures.leaves c.in_ok-tree.tree.places c.in_ok-tree.ensures.first

pub returns-clause-words : goal.returns-clause-words
returns-clause-words g c =
    c.in_ok-leaves.ensures.words ∙ ap (λ n. words_left n (g.R.Rng.stream c.args.words)) c.blocks-count.ensures

pub returns-clause-shown : goal.returns-clause-shown
returns-clause-shown g c =
    start_shown (g.R.Rng.stream c.args.words)
    (length c.args.blocks.contents) c.blocks-count.result c.height_for-height.result c.in_ok-leaves.leaves.items
    c.blocks-count.ensures c.in_ok-leaves.ensures.leaves c.in_ok-tree.tree.places c.in_ok-tree.ensures.first
    (g.R.Rng.stream c.first_leaves.new.words) c.in_ok-leaves.ensures.words
