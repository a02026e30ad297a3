use Rattle.std.proofs.Common.{◌≡◌, ℕ, List, suc, ◌++◌, ◌∙◌, length, set, sym, ap, subst, arith}
use Rattle.path_oram.specs.Prelude.{on_path, path_blocks, poured, WritesBack, IsSettled, HaveLeaves, blocks_in, tree_blocks}
use Rattle.path_oram.proofs.PathNumbers.{path_within}
use Rattle.path_oram.proofs.Poured.{poured_on, poured_most}
use Rattle.path_oram.proofs.Slots.{blocks_given, count_blocks, count_buckets, given_have}
use Rattle.path_oram.proofs.Beside.{beside_have}
use Rattle.path_oram.proofs.settling.access_path.Goals as goal

-- the path is written back after the blocks of the hand were moved into it
written : (height : ℕ) (leaves : List ℕ) (leaf : ℕ) (before empty after : List (List ℕ)) (old hand stash : List ℕ)
    (kept : ℕ)
    → empty ≡ poured (on_path height leaf) before (suc height)
    → hand ≡ old ++ path_blocks (on_path height leaf) before (suc height) → kept ≡ length stash
    → IsSettled height leaves leaf empty after hand stash kept → WritesBack height leaves leaf before after old stash
written height leaves leaf before empty after old hand stash kept is_empty is_hand all settled =
    subst (λ e. IsSettled height leaves leaf e after (old ++ path_blocks (on_path height leaf) before (suc height))
    stash (length stash)) is_empty
    (subst (λ h. IsSettled height leaves leaf empty after h stash (length stash)) is_hand
    (subst (IsSettled height leaves leaf empty after hand stash) all settled))

pub settle-requires-clause-most : goal.settle-requires-clause-most
settle-requires-clause-most c =
    rw c.empty_path.ensures.tree
    (poured_most (on_path c.args.height c.args.old) (tree_blocks c.args.tree.now) (suc c.args.height) c.requires.most)

pub settle-requires-clause-empty : goal.settle-requires-clause-empty
settle-requires-clause-empty c level low =
    rw c.empty_path.ensures.tree
    (poured_on (on_path c.args.height c.args.old) (tree_blocks c.args.tree.now)
    (suc c.args.height) level (omega (arith, low))
    (path_within c.args.height c.args.old (suc c.args.height) _ c.requires.leaf
    (count_buckets c.args.tree.now ∙ c.requires.buckets) (omega arith)))

pub returns-clause-written_back : goal.returns-clause-written_back
returns-clause-written_back c leaves exists stash tree =
    let path = on_path c.args.height c.args.old in
    let given = c.give_leaf.new.stash.items in
    let hand = c.empty_path.new.stash.items in
    let have : HaveLeaves (set leaves c.args.block c.args.new) given =
    rw c.give_leaf.ensures.slots
    (given_have leaves c.args.block c.args.new hand exists (c.empty_path.ensures.leaves leaves stash tree).0) in
    let same : blocks_in given
    ≡ blocks_in c.args.stash.now.items ++ path_blocks path (tree_blocks c.args.tree.now) (suc c.args.height) =
    ap blocks_in c.give_leaf.ensures.slots ∙ blocks_given c.args.block c.args.new hand ∙ c.empty_path.ensures.stash in
    written c.args.height (set leaves c.args.block c.args.new) c.args.old (tree_blocks c.args.tree.now)
    (tree_blocks c.empty_path.new.tree) (tree_blocks c.settle.new.tree) (blocks_in c.args.stash.now.items)
    (blocks_in given) (blocks_in c.settle.new.stash.items) _ c.empty_path.ensures.tree same
    (c.settle.new.stash.ok.0 ∙ sym (count_blocks c.settle.new.stash.items))
    (c.settle.ensures.settled (set leaves c.args.block c.args.new) have)

pub returns-clause-leaves : goal.returns-clause-leaves
returns-clause-leaves c leaves exists stash tree elsewhere =
    let path = on_path c.args.height c.args.old in
    let others = set leaves c.args.block c.args.new in
    let hand = c.empty_path.new.stash.items in
    let poured = c.empty_path.ensures.leaves leaves stash tree in
    let have : HaveLeaves others c.give_leaf.new.stash.items =
    rw c.give_leaf.ensures.slots (given_have leaves c.args.block c.args.new hand exists poured.0) in
    c.settle.ensures.leaves others have
    (beside_have leaves c.args.block c.args.new c.args.height c.args.old c.args.tree.now c.empty_path.new.tree
    c.requires.leaf (count_buckets c.args.tree.now ∙ c.requires.buckets) c.empty_path.ensures.tree poured.1 elsewhere)
