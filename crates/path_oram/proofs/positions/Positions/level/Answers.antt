use Rattle.std.proofs.Common.{◌≡◌, ◌≤◌, ◌+◌, get_or, sym, ap, ◌∙◌, subst, arith}
use Rattle.std.specs.Prelude.{Contains}
use Rattle.std.proofs.lemmas.Bool.{false≢true}
use Rattle.path_oram.specs.Prelude.{held, on_path, tree_blocks, IsWhole}
use Rattle.path_oram.proofs.Standing.{bucket_read, in_stash, one_level_more}
use Rattle.path_oram.proofs.positions.Positions.level.Goals as goal

pub returns-then-stands_at-clause-stands : goal.returns-then-stands_at-clause-stands
returns-then-stands_at-clause-stands c =
    let high : c.self.inside.height ≡ c.args.self.now.height = ap (λ p. p.height) c.self.view_is in
    let leaf = c.leaf-leaf.ensures.leaf ∙ ap (λ p. get_or p.leaves c.args.block 0) (sym c.self.view_is) in (
      omega (arith, high, c.loop-level-test.true),
      subst (λ bucket. Contains bucket c.args.block)
          (bucket_read _ c.args.self.now (tree_blocks c.as_slice.result.now) c.leaf-leaf.result c.number_at.result
          c.loop-level.level c.args.block c.self.view_is (ap tree_blocks c.as_slice.ensures.value) leaf
          c.number_at.ensures.number)
          (c.stands_at.ensures.0 c.if-stands_at.true),
    )

pub loop-level-preserved : goal.loop-level-preserved
loop-level-preserved c =
    one_level_more (λ level.
    held c.args.self.now.tree (on_path c.args.self.now.height (get_or c.args.self.now.leaves c.args.block 0) level))
    c.args.block c.loop-level.level
    c.loop-level.invariant
    (λ there.
    let leaf = c.leaf-leaf.ensures.leaf ∙ ap (λ p. get_or p.leaves c.args.block 0) (sym c.self.view_is) in
    let same =
    bucket_read _ c.args.self.now (tree_blocks c.as_slice.result.now) c.leaf-leaf.result c.number_at.result
    c.loop-level.level c.args.block c.self.view_is (ap tree_blocks c.as_slice.ensures.value) leaf
    c.number_at.ensures.number in
    false≢true (sym c.if-stands_at.false
    ∙ c.stands_at.ensures.1 (subst (λ bucket. Contains bucket c.args.block) (sym same) there)))

pub returns-clause-stands : goal.returns-clause-stands
returns-clause-stands c =
    let high : c.self.inside.height ≡ c.args.self.now.height = ap (λ p. p.height) c.self.view_is in
    let over : c.args.self.now.height + 1 ≤ c.loop-level.level = omega (arith, high, c.loop-level-test.false) in
    in_stash c.args.self.now (subst IsWhole c.self.view_is c.self.invariant.whole) c.args.block c.requires.exists
    (λ level less there. c.loop-level.invariant level (omega (arith, less, over)) there)
