use Rattle.std.proofs.Common.{◌≡◌, ◌<◌, ◌^◌, length, map, refl, sym, ap, ◌∙◌, subst, arith}
use Rattle.std.specs.List.{All}
use Rattle.path_oram.specs.Prelude.{first_words, leaf_of, IsHeightFor}
use Rattle.recursive_oram.specs.Prelude.{count_above}
use Rattle.path_oram.proofs.Started.{leaf_count, leaves_below}
use Rattle.recursive_oram.proofs.Quarters.{height-one, kept-made, length-as_kept, quarters}
use Rattle.recursive_oram.proofs.making.tree_above.Goals as goal

pub new-requires-clause-whole_blocks : goal.new-requires-clause-whole_blocks
new-requires-clause-whole_blocks g c =
    omega (arith, ap length c.in_ok-kept.ensures, length-as_kept c.args.leaves.now)

pub new-requires-clause-some_block : goal.new-requires-clause-some_block
new-requires-clause-some_block g c =
    omega (arith, ap length c.in_ok-kept.ensures, length-as_kept c.args.leaves.now, c.requires.more)

pub new-requires-clause-most_blocks : goal.new-requires-clause-most_blocks
new-requires-clause-most_blocks g c =
    omega (arith, ap length c.in_ok-kept.ensures, length-as_kept c.args.leaves.now, c.requires.most)

pub new-requires-clause-count : goal.new-requires-clause-count
new-requires-clause-count g c =
    omega (
      arith,
      ap length c.as_slice.ensures.value,
      leaf_count (g.R.Rng.stream c.args.words.now) _ _ _ c.in_ok-own.own.items refl c.in_ok-own.ensures.leaves,
      ap length c.in_ok-kept.ensures,
      quarters c.args.leaves.now,
    )

pub new-requires-clause-leaves : goal.new-requires-clause-leaves
new-requires-clause-leaves g c height least =
    let own = c.in_ok-own.own.items in
    let made = c.in_ok-own.ensures.leaves in
    let words = g.R.Rng.stream c.args.words.now in
    let count = leaf_count words _ _ _ own refl made in
    let same : c.height_for.result ≡ height =
    height-one (length own) c.height_for.result height
    (subst (λ n. IsHeightFor n c.height_for.result) (sym count) c.height_for.ensures.height)
    (subst (λ l. IsHeightFor (length l) height) c.as_slice.ensures.value least) in
    subst (λ l. All (λ leaf. leaf < 2 ^ height) l) (sym c.as_slice.ensures.value)
    (subst (λ h. All (λ leaf. leaf < 2 ^ h) own) same (leaves_below words _ _ _ own refl made))

pub returns-clause-keeps : goal.returns-clause-keeps
returns-clause-keeps g c =
    kept-made c.args.leaves.now c.in_ok-tree.tree c.in_ok-kept.kept.items c.requires.more c.in_ok-kept.ensures
    c.in_ok-tree.ensures.contents c.in_ok-tree.ensures.width

pub returns-clause-own : goal.returns-clause-own
returns-clause-own g c =
    let own = c.in_ok-own.own.items in
    let made = c.in_ok-own.ensures.leaves in
    let words = g.R.Rng.stream c.args.words.now in
    let count = leaf_count words _ _ _ own refl made in
    let same : c.height_for.result ≡ c.in_ok-tree.tree.places.height =
    height-one (length own) c.height_for.result c.in_ok-tree.tree.places.height
    (subst (λ n. IsHeightFor n c.height_for.result) (sym count) c.height_for.ensures.height)
    (subst (λ l. IsHeightFor (length l) c.in_ok-tree.tree.places.height) c.as_slice.ensures.value
    c.in_ok-tree.ensures.height) in
    made ∙ ap (λ h. map (leaf_of h) (first_words (count_above (length c.args.leaves.now)) words)) same
