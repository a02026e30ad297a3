use Rattle.std.proofs.Common.{◌≡◌, ◌<◌, ◌^◌, ◌∷◌, length, map, refl, sym, ap, ap₂, ◌∙◌, subst, arith}
use Rattle.std.specs.List.{All}
use Rattle.path_oram.specs.Prelude.{first_places, first_words, leaf_of, IsHeightFor}
use Rattle.path_oram.proofs.Started.{leaf_count, leaves_below}
use Rattle.recursive_oram.specs.Prelude.{IsMaking, IsPositionMap, AreSizes, size_of}
use Rattle.recursive_oram.proofs.Counted.{map-sizes}
use Rattle.recursive_oram.proofs.Made.{making-done, making-shown, making-start}
use Rattle.recursive_oram.proofs.oram.RecursiveOram.over.Given.{Over}
use Rattle.recursive_oram.proofs.oram.RecursiveOram.over.Goals as goal

copied : (g : Over) (c : goal.In_ok-own g) → c.in_ok-own.own.items ≡ c.in_ok-leaves.leaves.items
copied g c = c.in_ok-own.ensures.items_if_clones_equal (λ x y e. e) ∙ c.as_slice.ensures.value

many : (g : Over) (c : goal.In_ok-own g) → length c.in_ok-leaves.leaves.items ≡ c.blocks-count.result
many g c = leaf_count (g.R.Rng.stream c.args.words) _ _ _ c.in_ok-leaves.leaves.items refl c.in_ok-leaves.ensures.leaves

pub over-requires-clause-most : goal.over-requires-clause-most
over-requires-clause-most g c =
    omega (arith, ap length (copied g c), many g c, c.blocks-count.ensures, c.requires)

pub over-requires-clause-count : goal.over-requires-clause-count
over-requires-clause-count g c = omega (arith, ap length (copied g c), many g c, c.blocks-count.ensures)

pub over-requires-clause-height : goal.over-requires-clause-height
over-requires-clause-height g c =
    subst (λ n. IsHeightFor n c.height_for-height.result) (sym (ap length (copied g c) ∙ many g c))
    c.height_for-height.ensures.height

pub over-requires-clause-leaves : goal.over-requires-clause-leaves
over-requires-clause-leaves g c =
    subst (λ l. All (λ leaf. leaf < 2 ^ c.height_for-height.result) l) (sym (copied g c))
    (leaves_below (g.R.Rng.stream c.args.words) _ _ _ c.in_ok-leaves.leaves.items refl c.in_ok-leaves.ensures.leaves)

making : (g : Over) (c : goal.In_ok-above g) → IsMaking (g.R.Rng.stream c.args.words) c.in_ok-tree.tree
    c.in_ok-above.above.items c.in_ok-above.last.items (g.R.Rng.stream c.trees_above.new.words)
making g c =
    let start = g.R.Rng.stream c.args.words in
    let tree = c.in_ok-tree.tree in
    let leaves = c.in_ok-leaves.leaves.items in
    let height : c.height_for-height.result ≡ tree.places.height = sym (ap
    (λ p. p.height) c.in_ok-tree.ensures.first) in
    let first : tree.places ≡ first_places tree.places.height leaves =
    c.in_ok-tree.ensures.first
    ∙ ap₂ first_places height
    (c.in_ok-own.ensures.items_if_clones_equal (λ x y e. e) ∙ c.as_slice.ensures.value) in
    c.in_ok-above.ensures.made start
    (making-start start tree leaves (g.R.Rng.stream c.first_leaves.new.words) c.blocks-count.result
    (ap length c.in_ok-tree.ensures.contents ∙ sym c.blocks-count.ensures)
    (omega (arith, c.blocks-count.ensures, c.requires)) first
    (c.in_ok-leaves.ensures.leaves ∙ ap (λ h. map (leaf_of h) (first_words c.blocks-count.result start)) height)
    c.in_ok-leaves.ensures.words)

pub invariant_of-result : goal.invariant_of-result
invariant_of-result g c =
    record {
      tree = c.in_ok-tree.ensures.tree;
      map = making-done (g.R.Rng.stream c.args.words) c.in_ok-tree.tree c.in_ok-above.above.items
          c.in_ok-above.last.items (g.R.Rng.stream c.trees_above.new.words) (making g c) c.in_ok-above.ensures.few;
      few = (making g c).most;
    }

pub returns-clause-sizes : goal.returns-clause-sizes
returns-clause-sizes g c =
    let tree = c.in_ok-tree.tree in
    let above = c.in_ok-above.above.items in
    let is : IsPositionMap tree.places.leaves above c.in_ok-above.last.items =
    making-done (g.R.Rng.stream c.args.words) tree above c.in_ok-above.last.items
    (g.R.Rng.stream c.trees_above.new.words) (making g c) c.in_ok-above.ensures.few in
    subst (λ n. AreSizes n (size_of tree ∷ map size_of above)) (ap length c.in_ok-tree.ensures.contents)
    (map-sizes tree above c.in_ok-above.last.items c.in_ok-tree.ensures.tree is)

pub returns-clause-shown : goal.returns-clause-shown
returns-clause-shown g c list exist =
    making-shown (g.R.Rng.stream c.args.words) c.in_ok-tree.tree c.in_ok-above.above.items c.in_ok-above.last.items
    (g.R.Rng.stream c.trees_above.new.words) (making g c) c.in_ok-above.ensures.few c.in_ok-tree.ensures.tree list
    (subst (λ n. All (λ block. block < n) list) (sym (ap length c.in_ok-tree.ensures.contents)) exist)

pub returns-clause-first : goal.returns-clause-first
returns-clause-first g c = (making g c).made

pub returns-clause-words : goal.returns-clause-words
returns-clause-words g c = (making g c).drawn

pub returns-clause-position_map : goal.returns-clause-position_map
returns-clause-position_map g c =
    making-done (g.R.Rng.stream c.args.words) c.in_ok-tree.tree c.in_ok-above.above.items c.in_ok-above.last.items
    (g.R.Rng.stream c.trees_above.new.words) (making g c) c.in_ok-above.ensures.few
