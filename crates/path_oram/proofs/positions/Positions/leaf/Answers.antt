use Rattle.std.proofs.Common.{◌<◌, length, sym, subst, ⊎_elim}
use Rattle.std.specs.Prelude.{Contains}
use Rattle.std.specs.List.{flat_map}
use Rattle.std.proofs.lemmas.Bool.{false≢true}
use Rattle.std.proofs.lemmas.List.Elements.{Contains-append_cases}
use Rattle.path_oram.specs.Prelude.{blocks_in, tree_blocks}
use Rattle.path_oram.proofs.Standing.{somewhere}
use Rattle.path_oram.proofs.positions.Positions.leaf.Goals as goal

pub leaf_in_tree-requires : goal.leaf_in_tree-requires
leaf_in_tree-requires c =
    let stash = blocks_in c.self.inside.stash.items in
    let tree = tree_blocks c.self.inside.tree.items in
    record {
      there =
          subst (λ t. Contains (flat_map (λ bucket. bucket) (tree_blocks t)) c.args.block)
          (sym c.as_slice-in-None.ensures.value)
          (⊎_elim
          (λ here. absurd (false≢true (c.in-None.ensures.there.1
          (subst (λ s. Contains (blocks_in s) c.args.block) (sym c.as_slice.ensures.value) here))))
          (λ later. later)
          (Contains-append_cases stash (flat_map (λ bucket. bucket) tree) c.args.block
          (somewhere _ c.self.invariant.whole c.args.block
          (subst (λ p. c.args.block < length p.leaves) (sym c.self.view_is) c.requires.exists))));
    }
