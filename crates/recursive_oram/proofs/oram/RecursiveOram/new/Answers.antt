use Rattle.std.proofs.Common.{◌≡◌, ℕ, ◌+◌, ◌*◌, ◌/◌, ◌<◌, List, length, map, All, ap, ◌∙◌, subst, arith}
use Rattle.std.specs.Result.{IfOk}
use Rattle.banks.proofs.Blocks.{length-cut}
use Rattle.path_oram.specs.Prelude.{first_words}
use Rattle.recursive_oram.specs.Prelude.{shown_ahead, AreSizes, rec_leaves, size_of, words_made, levels_of, all_trees}
use Rattle.recursive_oram.proofs.oram.RecursiveOram.new.Goals as goal

pub over-requires : goal.over-requires
over-requires g c =
    let count : length c.new.result.contents ≡ length c.args.blocks.items / c.args.block_words =
    ap length c.new.ensures.contents
    ∙ length-cut c.args.block_words (length c.args.blocks.items / c.args.block_words) c.args.blocks.items in
    omega (arith, count, c.requires.most_blocks)

pub returns-clause-sizes : goal.returns-clause-sizes
returns-clause-sizes g c =
    let count : length c.new.result.contents ≡ length c.args.blocks.items / c.args.block_words =
    ap length c.new.ensures.contents
    ∙ length-cut c.args.block_words (length c.args.blocks.items / c.args.block_words) c.args.blocks.items in
    subst (λ n. IfOk c.over.result (λ oram. AreSizes n (map size_of (all_trees oram)))) count c.over.ensures.sizes

pub returns-clause-shown : goal.returns-clause-shown
returns-clause-shown g c =
    let count : length c.new.result.contents ≡ length c.args.blocks.items / c.args.block_words =
    ap length c.new.ensures.contents
    ∙ length-cut c.args.block_words (length c.args.blocks.items / c.args.block_words) c.args.blocks.items in
    subst (λ n. IfOk c.over.result (λ oram. (list : List ℕ) → All (λ block. block < n) list
    → shown_ahead (levels_of (all_trees oram)) (g.R.Rng.stream oram.words) list
    ≡ rec_leaves (first_words (words_made (map size_of (all_trees oram)) + length list * length (all_trees oram))
    (g.R.Rng.stream c.args.words)) (map size_of (all_trees oram)) list)) count c.over.ensures.shown
