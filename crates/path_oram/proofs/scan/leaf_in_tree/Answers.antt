use Rattle.std.proofs.Common.{◌≡◌, [], sym, ap, ◌∙◌, subst, arith}
use Rattle.std.specs.Prelude.{Contains}
use Rattle.std.proofs.lemmas.Bool.{false≢true}
use Rattle.std.proofs.lemmas.List.{get_or_read}
use Rattle.path_oram.specs.Prelude.{held, blocks_in, tree_blocks}
use Rattle.path_oram.proofs.Slots.{count_buckets, held_blocks}
use Rattle.path_oram.proofs.Standing.{one_level_more, stands_in}
use Rattle.path_oram.proofs.scan.leaf_in_tree.Goals as goal

pub loop-number-preserved : goal.loop-number-preserved
loop-number-preserved c =
    one_level_more (held (tree_blocks c.args.tree.now)) c.args.block c.loop-number.number c.loop-number.invariant
    (λ there.
    let same : held (tree_blocks c.args.tree.now) c.loop-number.number ≡ blocks_in c.slots.result.now =
    held_blocks c.args.tree.now c.loop-number.number
    ∙ ap blocks_in (sym (c.slots.ensures.slots
    ∙ get_or_read c.args.tree.now c.loop-number.number c.index-tree-number.result
    (omega (arith, c.loop-number-test.true, c.loop-number.auto.number-end)) c.index-tree-number.is [])) in
    false≢true (c.in_default.ensures.there.1 (subst (λ bucket. Contains bucket c.args.block) same there)))

pub unreachable-requires : goal.unreachable-requires
unreachable-requires c =
    let found = stands_in (tree_blocks c.args.tree.now) c.args.block c.requires.there in
    c.loop-number.invariant found.number
    (omega (arith, found.within, count_buckets c.args.tree.now, c.loop-number-test.false)) found.there
