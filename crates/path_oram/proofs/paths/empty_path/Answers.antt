use Rattle.std.proofs.Common.{ℕ, suc, ◌≡◌, ◌≢◌, ◌<◌, ◌++◌, ◌∙◌, ap, refl, sym, subst, arith, length}
use Rattle.path_oram.specs.Prelude.{on_path, held, path_blocks, poured, blocks_in, slots_at, tree_blocks}
use Rattle.path_oram.proofs.PathNumbers.{path_differs, path_within, path_apart}
use Rattle.path_oram.proofs.Poured.{poured_room, poured_more, stash_more}
use Rattle.path_oram.proofs.Slots.{blocks_append, blocks_cleared, bucket_has, count_blocks, count_buckets, held_blocks, held_length, stash_poured, tree_cleared}
use Rattle.path_oram.proofs.paths.empty_path.Goals as goal

pub pour-requires-clause-room : goal.pour-requires-clause-room
pour-requires-clause-room c =
    let path = on_path c.args.height c.args.leaf in
    let level = c.loop-level.level in
    let before = tree_blocks c.args.tree.now in
    let stash = blocks_in c.args.stash.now.items in
    let same : length (held (tree_blocks c.loop-level.tree) c.number_at.result)
    ≡ length (held (poured path before level) (path level)) =
    rw (c.loop-level.invariant.tree, c.number_at.ensures.number) refl in
    omega (
      arith,
      same,
      held_length c.loop-level.tree c.number_at.result,
      poured_room path stash before level
          (path_within c.args.height c.args.leaf (suc level) _ c.requires.leaf
          (count_buckets c.args.tree.now ∙ c.requires.buckets) (omega arith))
          (path_apart c.args.height c.args.leaf level c.requires.leaf (omega arith)),
      ap length c.loop-level.invariant.stash,
      count_blocks c.loop-level.stash.items,
      c.loop-level.stash.ok.0,
      c.requires.room,
      c.loop-level.invariant.capacity,
    )

pub loop-level-preserved : goal.loop-level-preserved
loop-level-preserved c =
    let path = on_path c.args.height c.args.leaf in
    let level = c.loop-level.level in
    let number = c.number_at.result in
    let now = tree_blocks c.loop-level.tree in
    let before = tree_blocks c.args.tree.now in
    let test = c.loop-level-test.true in
    let differ : (l : ℕ) → l < level → path level ≢ path l =
    λ l less. path_differs c.args.height c.args.leaf level l (omega arith) (omega arith) c.requires.leaf
    (omega arith) in
    record {
      tree = ap tree_blocks c.pour.ensures.tree ∙ blocks_cleared c.loop-level.tree number
          ∙ poured_more path before now level number c.loop-level.invariant.tree c.number_at.ensures.number;
      stash = ap blocks_in c.pour.ensures.stash
          ∙ blocks_append c.loop-level.stash.items (slots_at c.loop-level.tree number)
          ∙ ap (λ l. blocks_in c.loop-level.stash.items ++ l) (sym (held_blocks c.loop-level.tree number))
          ∙ stash_more path before now (blocks_in c.args.stash.now.items) (blocks_in c.loop-level.stash.items) level
          number differ c.loop-level.invariant.tree c.number_at.ensures.number c.loop-level.invariant.stash;
      leaves = λ leaves stash tree.
          let so_far = c.loop-level.invariant.leaves leaves stash tree in (
            rw c.pour.ensures.stash
                (stash_poured leaves c.loop-level.stash.items (slots_at c.loop-level.tree number) so_far.0
                (bucket_has leaves c.loop-level.tree number so_far.1)),
            rw c.pour.ensures.tree (tree_cleared leaves c.loop-level.tree number so_far.1),
          );
      capacity = omega (arith, c.pour.ensures.capacity, c.loop-level.invariant.capacity);
    }

pub returns-clause-tree : goal.returns-clause-tree
returns-clause-tree c =
    let last : c.loop-level.level ≡ suc c.args.height = omega
    (arith, c.loop-level-test.false, c.loop-level.auto.level-end) in
    subst (λ n. tree_blocks c.loop-level.tree ≡ poured
    (on_path c.args.height c.args.leaf) (tree_blocks c.args.tree.now) n) last c.loop-level.invariant.tree

pub returns-clause-stash : goal.returns-clause-stash
returns-clause-stash c =
    let last : c.loop-level.level ≡ suc c.args.height = omega
    (arith, c.loop-level-test.false, c.loop-level.auto.level-end) in
    subst (λ n. blocks_in c.loop-level.stash.items ≡ blocks_in c.args.stash.now.items ++ path_blocks
    (on_path c.args.height c.args.leaf) (tree_blocks c.args.tree.now) n) last c.loop-level.invariant.stash
