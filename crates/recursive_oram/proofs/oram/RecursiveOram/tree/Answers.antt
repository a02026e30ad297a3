use Rattle.std.proofs.Common.{◌≡◌, ◌+◌, ◌-◌, ◌<◌, Some, pos, length, get_or, suc, sym, ap, ◌∙◌, subst, arith}
use Rattle.std.specs.Prelude.{slice_get}
use Rattle.path_oram.specs.Prelude.{IsTree, BlockTree}
use Rattle.recursive_oram.specs.Prelude.{kept_leaf, all_trees}
use Rattle.recursive_oram.proofs.Kept.{kept-above, kept-first, last-above, last-first, wide-above, whole-above}
use Rattle.recursive_oram.proofs.oram.RecursiveOram.tree.Goals as goal

pub returns-then-level-eq0-clause-keeps : goal.returns-then-level-eq0-clause-keeps
returns-then-level-eq0-clause-keeps g c next is block within =
    let first : c.args.level + 1 ≡ suc 0 = omega (arith, c.if-level-eq0.true) in
    kept-first c.self.inside.tree c.self.inside.above.items c.self.inside.last.items c.self.invariant.tree
    c.self.invariant.map next
    (subst (λ o. slice_get (all_trees o) (suc 0) ≡ Some next) (sym c.self.view_is)
    (subst (λ k. slice_get (all_trees c.args.self.now) k ≡ Some next) first is)) block within

pub returns-clause-whole : goal.returns-clause-whole
returns-clause-whole g c =
    let inside : c.args.level - 1 < length c.self.inside.above.items =
    omega (arith, c.requires, ap (λ o. length o.above) c.self.view_is, c.if-level-eq0.false) in
    subst IsTree (sym c.index.ensures)
    (whole-above c.self.inside.tree.places.leaves c.self.inside.above.items c.self.inside.last.items
    c.self.invariant.map (c.args.level - 1) c.index.result.now inside)

pub returns-clause-keeps : goal.returns-clause-keeps
returns-clause-keeps g c next is block within =
    let inside : c.args.level - 1 < length c.self.inside.above.items =
    omega (arith, c.requires, ap (λ o. length o.above) c.self.view_is, c.if-level-eq0.false) in
    let up : c.args.level + 1 ≡ suc (suc (c.args.level - 1)) = omega (arith, c.if-level-eq0.false) in
    let this = get_or c.self.inside.above.items (c.args.level - 1) c.index.result.now in
    subst (λ (t : BlockTree). kept_leaf next.contents block ≡ pos (get_or t.places.leaves block 0))
    (sym c.index.ensures)
    (kept-above c.self.inside.tree.places.leaves c.self.inside.above.items c.self.inside.last.items
    c.self.invariant.map (c.args.level - 1) c.index.result.now inside next
    (subst (λ o. slice_get (all_trees o) (suc (suc (c.args.level - 1))) ≡ Some next) (sym c.self.view_is)
    (subst (λ k. slice_get (all_trees c.args.self.now) k ≡ Some next) up is)) block
    (subst (λ (t : BlockTree). block < length t.contents) c.index.ensures within))

pub returns-then-level-eq0-clause-last : goal.returns-then-level-eq0-clause-last
returns-then-level-eq0-clause-last g c is =
    last-first c.self.inside.tree.places.leaves c.self.inside.above.items c.self.inside.last.items
    c.self.invariant.map
    (omega (arith, is, ap (λ o. length o.above) c.self.view_is, c.if-level-eq0.true))
    ∙ ap (λ o. o.last) c.self.view_is

pub returns-clause-width : goal.returns-clause-width
returns-clause-width g c some =
    let inside : c.args.level - 1 < length c.self.inside.above.items =
    omega (arith, c.requires, ap (λ o. length o.above) c.self.view_is, c.if-level-eq0.false) in
    subst (λ (t : BlockTree). t.width ≡ 4) (sym c.index.ensures)
    (wide-above c.self.inside.tree.places.leaves c.self.inside.above.items c.self.inside.last.items
    c.self.invariant.map (c.args.level - 1) c.index.result.now inside)

pub returns-clause-last : goal.returns-clause-last
returns-clause-last g c is =
    let all : suc (c.args.level - 1) ≡ length c.self.inside.above.items =
    omega (arith, is, ap (λ o. length o.above) c.self.view_is, c.if-level-eq0.false) in
    subst (λ (t : BlockTree). t.places.leaves ≡ c.args.self.now.last) (sym c.index.ensures)
    (last-above c.self.inside.tree.places.leaves c.self.inside.above.items c.self.inside.last.items
    c.self.invariant.map (c.args.level - 1) c.index.result.now all
    ∙ ap (λ o. o.last) c.self.view_is)
