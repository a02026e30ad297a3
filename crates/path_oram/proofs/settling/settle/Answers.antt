use Rattle.std.proofs.Common.{◌≡◌, ℕ, List, suc, ◌^◌, ◌<◌, ◌++◌, [], ◌∷◌, length, length-set, get_or, set, refl, sym, ap, subst, arith, ◌∙◌}
use Rattle.std.specs.List.{swap_remove}
use Rattle.std.proofs.lemmas.List.{get_or_read}
use Rattle.std.proofs.Math.ListN.{get_or-map}
use Rattle.path_oram.specs.declared.bucket.Placed.{Placed}
use Rattle.path_oram.specs.Prelude.{on_path, IsDeepest, NoneFrom, blocks_in, slots_at, tree_blocks}
use Rattle.path_oram.proofs.Settled.{settled_kept, settled_start, settled_put}
use Rattle.path_oram.proofs.Slots.{blocks_put, blocks_taken, count_blocks, count_buckets, slot_has, stash_taken, tree_put}
use Rattle.path_oram.proofs.settling.settle.Goals as goal

-- the block of a slot that was read
block_read : (slots : List Placed) (place : ℕ) (slot : Placed) → slot ≡ get_or slots place slot
    → slot.block ≡ get_or (blocks_in slots) place slot.block
block_read slots place slot read =
    ap (λ (s : Placed). s.block) read ∙ sym (get_or-map (λ (s : Placed). s.block) slots place slot)

pub loop-kept-init : goal.loop-kept-init
loop-kept-init c = record {
  within = omega arith;
  buckets = refl;
  settled = λ leaves have. settled_start c.args.height leaves c.args.leaf (tree_blocks c.args.tree.now)
      (blocks_in c.args.stash.now.items) c.requires.empty c.requires.most;
  stash = λ leaves have. have;
  tree = λ leaves stash have. have;
  capacity = refl;
}

pub loop-kept-preserved-in-Some : goal.loop-kept-preserved-in-Some
loop-kept-preserved-in-Some c =
    let path = on_path c.args.height c.args.leaf in
    let tree = c.loop-kept.tree in
    let stash = c.loop-kept.stash.items in
    let kept = c.loop-kept.kept in
    let slot = c.index-slot.result.now in
    let level = c.in-Some.level in
    let below : kept < length stash = omega (arith, c.loop-kept-test.true, c.len.ensures, c.loop-kept.stash.ok.0) in
    let wide : length (tree_blocks tree) ≡ 2 ^ suc c.args.height =
    count_buckets tree ∙ c.loop-kept.invariant.buckets ∙ c.requires.buckets in
    let after : c.put.new.tree ≡ set tree (path level) (slots_at tree (path level) ++ slot ∷ []) =
    c.put.ensures ∙ rw c.number_at.ensures.number refl in
    let rest : c.swap_remove.new.self.items ≡ swap_remove stash kept slot =
    let same : c.swap_remove.result ≡ slot = c.swap_remove.ensures.value
    ∙ sym (get_or_read stash kept slot below c.index-slot.ensures c.swap_remove.result)
    in
    subst (λ d. c.swap_remove.new.self.items ≡ swap_remove stash kept d) same c.swap_remove.ensures.items in
    record {
      within = omega (arith, below, c.swap_remove.ensures.len, c.swap_remove.new.self.ok.0, c.loop-kept.stash.ok.0);
      buckets = ap length after ∙ length-set tree (path level) (slots_at tree (path level) ++ slot ∷ [])
          ∙ c.loop-kept.invariant.buckets;
      settled = λ leaves have.
          let right = slot_has leaves stash kept slot below c.index-slot.ensures
          (c.loop-kept.invariant.stash leaves have) in
          rw (after, rest, blocks_put tree (path level) slot, blocks_taken stash kept slot)
          (settled_put c.args.height leaves c.args.leaf (tree_blocks c.args.tree.now) (tree_blocks tree)
          (blocks_in c.args.stash.now.items) (blocks_in stash) kept slot.block level
          c.requires.leaf wide (c.loop-kept.invariant.settled leaves have) (omega (arith, below, count_blocks stash))
          (block_read stash kept slot c.index-slot.ensures)
          (subst (λ own. IsDeepest c.args.height own c.args.leaf (tree_blocks tree) level) right c.in-Some.ensures));
      stash = λ leaves have. rw rest (stash_taken leaves stash kept slot below c.index-slot.ensures
          (c.loop-kept.invariant.stash leaves have));
      tree = λ leaves have all. rw after
          (tree_put leaves tree (path level) slot (c.loop-kept.invariant.tree leaves have all)
          (slot_has leaves stash kept slot below c.index-slot.ensures (c.loop-kept.invariant.stash leaves have)));
      capacity = c.swap_remove.ensures.capacity ∙ c.loop-kept.invariant.capacity;
    }

pub loop-kept-preserved : goal.loop-kept-preserved
loop-kept-preserved c =
    let tree = c.loop-kept.tree in
    let stash = c.loop-kept.stash.items in
    let kept = c.loop-kept.kept in
    let slot = c.index-slot.result.now in
    let below : kept < length stash = omega (arith, c.loop-kept-test.true, c.len.ensures, c.loop-kept.stash.ok.0) in
    record {
      within = omega (arith, below);
      buckets = c.loop-kept.invariant.buckets;
      settled = λ leaves have.
          let right = slot_has leaves stash kept slot below c.index-slot.ensures
          (c.loop-kept.invariant.stash leaves have) in
          settled_kept c.args.height leaves c.args.leaf (tree_blocks c.args.tree.now) (tree_blocks tree)
          (blocks_in c.args.stash.now.items) (blocks_in stash) kept slot.block
          (c.loop-kept.invariant.settled leaves have) (omega (arith, below, count_blocks stash))
          (block_read stash kept slot c.index-slot.ensures)
          (subst (λ own. NoneFrom c.args.height own c.args.leaf (tree_blocks tree) 0) right c.in-None.ensures);
      stash = c.loop-kept.invariant.stash;
      tree = c.loop-kept.invariant.tree;
      capacity = c.loop-kept.invariant.capacity;
    }
