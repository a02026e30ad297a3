use Rattle.std.proofs.Common.{◌≡◌, ℕ, ◌+◌, ◌<◌, ◌/◌, List, length, map, All, ap, ◌∙◌, subst, arith}
use Rattle.std.specs.Result.{IfOk}
use Rattle.banks.specs.Prelude.{one_leaf}
use Rattle.banks.proofs.Blocks.{length-cut}
use Rattle.path_oram.specs.Prelude.{paths_ahead, first_places, IsHeightFor, first_words, leaf_of, words_left, leaves_shown}
use Rattle.path_oram.proofs.oram.PathOram.new.Given.{Over}
use Rattle.path_oram.proofs.oram.PathOram.new.Goals as goal

pub over-requires : goal.over-requires
over-requires g c =
    let count : length c.new.result.contents ≡ length c.args.blocks.items / c.args.block_words =
    ap length c.new.ensures.contents
    ∙ length-cut c.args.block_words (length c.args.blocks.items / c.args.block_words) c.args.blocks.items in
    omega (arith, count, c.requires.most_blocks)

-- how many blocks the bank has
count : (g : Over) (c : goal.After-over g) → length c.new.result.contents ≡ length c.args.blocks.items / c.args.block_words
count g c =
    ap length c.new.ensures.contents
    ∙ length-cut c.args.block_words (length c.args.blocks.items / c.args.block_words) c.args.blocks.items

pub returns-clause-contents : goal.returns-clause-contents
returns-clause-contents g c =
    subst (λ blocks. IfOk c.over.result (λ oram. oram.contents ≡ blocks)) c.new.ensures.contents c.over.ensures.contents

pub returns-clause-width : goal.returns-clause-width
returns-clause-width g c =
    subst (λ n. IfOk c.over.result (λ oram. oram.width ≡ n)) c.new.ensures.width c.over.ensures.width

pub returns-clause-height : goal.returns-clause-height
returns-clause-height g c =
    subst (λ n. IfOk c.over.result (λ oram. IsHeightFor n oram.places.height)) (count g c) c.over.ensures.height

pub returns-clause-first : goal.returns-clause-first
returns-clause-first g c =
    subst (λ n. IfOk c.over.result (λ oram. oram.places
    ≡ first_places oram.places.height (map (leaf_of oram.places.height) (first_words n (g.R.Rng.stream c.args.words)))))
    (count g c) c.over.ensures.first

pub returns-clause-words : goal.returns-clause-words
returns-clause-words g c =
    subst (λ n. IfOk c.over.result (λ oram. g.R.Rng.stream oram.words ≡ words_left n (g.R.Rng.stream c.args.words)))
    (count g c) c.over.ensures.words

pub returns-clause-shown : goal.returns-clause-shown
returns-clause-shown g c =
    subst (λ n. IfOk c.over.result (λ oram.
    (list : List ℕ) → All (λ block. block < n) list → paths_ahead oram.places (g.R.Rng.stream oram.words) list ≡ map
    one_leaf (leaves_shown n oram.places.height (first_words (n + length list) (g.R.Rng.stream c.args.words)) list)))
    (count g c) c.over.ensures.shown
