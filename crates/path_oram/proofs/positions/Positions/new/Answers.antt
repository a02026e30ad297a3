use Rattle.std.proofs.Common.{◌≡◌, ◌≤◌, ◌∙◌, [], length, map, replicate, ap, sym, subst, arith}
use Rattle.std.specs.List.{range_with_len}
use Rattle.std.proofs.lemmas.List.{length-map}
use Rattle.std.proofs.lemmas.List.FromFn.{length-range_with_len}
use Rattle.path_oram.specs.Prelude.{slot_of, IsWhole}
use Rattle.path_oram.proofs.Beginning.{first_whole, tree_size}
use Rattle.path_oram.proofs.Found.{begun}
use Rattle.path_oram.proofs.positions.Positions.new.Goals as goal

pub overflow_add-height : goal.overflow_add-height
overflow_add-height c = omega (arith, c.requires.height.least 12 c.requires.most)

pub overflow_shl-height : goal.overflow_shl-height
overflow_shl-height c = omega (arith, c.requires.height.least 12 c.requires.most)

pub invariant_of-result : goal.invariant_of-result
invariant_of-result c =
    let low : c.args.height ≤ 12 = c.requires.height.least 12 c.requires.most in
    let leaves = c.args.leaves.items in
    let stash : c.in_ok-stash.stash.items ≡ map (slot_of leaves) (range_with_len 0 (length leaves)) =
    c.in_ok-stash.ensures
    ∙ ap (λ l. map (slot_of l) (range_with_len 0 (length l))) c.as_slice.ensures.value in
    let start = begun c.len.result c.args.height leaves c.in_ok-stash.stash.items c.in_ok-tree.tree.items
    (c.len.ensures ∙ c.args.leaves.ok.0) stash
    (c.in_ok-tree.ensures ∙ ap (λ n. replicate n []) (tree_size c.args.height low)) c.requires.height
    c.requires.leaves in
    record {
      height = low;
      reserved = omega (
        arith,
        c.len.ensures,
        c.args.leaves.ok.0,
        c.in_ok-stash.stash.ok.0,
        c.in_ok-stash.stash.ok.1,
        ap length stash,
        length-map (range_with_len 0 (length leaves)) (slot_of leaves),
        length-range_with_len 0 (length leaves),
      );
      whole = subst IsWhole (sym start.first) (first_whole c.args.height leaves c.requires.height c.requires.leaves);
      stash = start.in_stash;
      tree = start.in_tree;
    }

pub returns-clause-first : goal.returns-clause-first
returns-clause-first c =
    let low : c.args.height ≤ 12 = c.requires.height.least 12 c.requires.most in
    let leaves = c.args.leaves.items in
    let stash : c.in_ok-stash.stash.items ≡ map (slot_of leaves) (range_with_len 0 (length leaves)) =
    c.in_ok-stash.ensures
    ∙ ap (λ l. map (slot_of l) (range_with_len 0 (length l))) c.as_slice.ensures.value in
    (begun c.len.result c.args.height leaves c.in_ok-stash.stash.items c.in_ok-tree.tree.items
    (c.len.ensures ∙ c.args.leaves.ok.0) stash
    (c.in_ok-tree.ensures ∙ ap (λ n. replicate n []) (tree_size c.args.height low)) c.requires.height
    c.requires.leaves).first

pub returns-clause-whole : goal.returns-clause-whole
returns-clause-whole c =
    subst IsWhole (sym (returns-clause-first c))
    (first_whole c.args.height c.args.leaves.items c.requires.height c.requires.leaves)
