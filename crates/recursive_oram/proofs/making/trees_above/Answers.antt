use Rattle.std.proofs.Common.{◌≡◌, ◌<◌, length, map, sym, subst, arith}
use Rattle.path_oram.specs.Prelude.{first_words, leaf_of, words_left}
use Rattle.recursive_oram.specs.Prelude.{IsMaking, KeepsLeaves, count_above}
use Rattle.recursive_oram.proofs.Made.{making-more, many-above}
use Rattle.recursive_oram.proofs.making.trees_above.Goals as goal

pub making-preserved : goal.making-preserved
making-preserved g c =
    let last = c.making.last.items in
    let next = c.in_ok-next.next in
    let own = c.in_ok-next.own.items in
    let before = g.R.Rng.stream c.making.words in
    let after = g.R.Rng.stream c.tree_above.new.words in
    let slice = c.as_slice.ensures.value in
    let more : 4 < length last = omega arith in
    let made : own ≡ map (leaf_of next.places.height) (first_words (count_above (length last)) before) =
    subst (λ l. own ≡ map (leaf_of next.places.height) (first_words (count_above (length l)) before)) slice
    c.in_ok-next.ensures.own in
    record {
      most = omega (arith, many-above own last next.places.height before made, c.making.invariant.most);
      made = λ start begun. subst (λ ts. IsMaking start c.args.tree.now ts own after) (sym c.in_ok-push.ensures.items)
          (making-more start c.args.tree.now c.making.above.items last before next own after
          (c.making.invariant.made start begun) more
          (subst (λ l. KeepsLeaves l next) slice c.in_ok-next.ensures.keeps) c.in_ok-next.ensures.tree
          c.in_ok-next.ensures.first made
          (subst (λ l. after ≡ words_left (count_above (length l)) before) slice c.in_ok-next.ensures.drawn));
    }
