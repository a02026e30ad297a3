use Rattle.std.proofs.Common.{rules, nat_abs, ◌≡◌, ◌<◌, ◌^◌, pos, ◌∷◌, sym, ap, ap₂, ◌∙◌, subst, arith, w64, to_z, of_z}
use Rattle.std.proofs.lemmas.Int.{wraps}
use Rattle.std.proofs.lemmas.List.{length-map}
use Rattle.path_oram.specs.Prelude.{leaf_of}
use Rattle.recursive_oram.specs.Prelude.{block_above, tree_level, IsDescent, IsPositionMap, levels_of}
use Rattle.recursive_oram.proofs.ComingDown.{number_of, descent-more}
use Rattle.recursive_oram.proofs.Kept.{with_kept}
use Rattle.recursive_oram.proofs.Led.{leaves_now-count}
use Rattle.recursive_oram.proofs.leading.+lead.Goals as goal

pub with_leaf-requires : goal.with_leaf-requires
with_leaf-requires g t c =
    let trees = c.in-Some.tree.now ∷ c.in-Some.rest.now in
    record {
      room = omega (
        arith,
        ap (λ l. l.len) c.lead-way.ensures.listing,
        leaves_now-count (levels_of trees) (block_above c.args.block),
        length-map trees tree_level,
        c.in-Some.ensures.cases.1,
        c.requires.few,
      );
    }

pub returns-in-Some : goal.returns-in-Some
returns-in-Some g t c =
    let tree = c.in-Some.tree.now in
    let rest = c.in-Some.rest.now in
    let below = c.args.below.now in
    let after = c.swap_word-was.new.self in
    let between = g.R.Rng.stream c.lead-way.new.words in
    let left = g.R.Rng.stream c.next_u64-in-Some.new.self in
    let becomes = c.low_bits-becomes.result in
    let was = nat_abs (to_z w64 (of_z w64 c.swap_word-was.result)) in
    let all : c.args.above.now ≡ tree ∷ rest = c.in-Some.ensures.cases.0 in
    let map : IsPositionMap below.places.leaves (tree ∷ rest) c.args.last.now =
    subst (λ ts. IsPositionMap below.places.leaves ts c.args.last.now) all c.requires.map in
    let same : to_z w64 (of_z w64 c.swap_word-was.result) ≡ c.swap_word-was.result = search (rules, wraps) in
    let back : to_z w64 (of_z w64 c.from.result) ≡ c.from.result = search (rules, wraps) in
    let value : to_z w64 (of_z w64 c.from.result) ≡ pos becomes = back ∙ c.from.ensures in
    let replaced : after.contents ≡ with_kept tree.contents c.args.block (pos becomes) =
    subst (λ v. after.contents ≡ with_kept tree.contents c.args.block v) value c.swap_word-was.ensures.contents in
    subst (λ ts. IsDescent below ts (after ∷ c.lead-way.new.above) c.lead-way.new.last (g.R.Rng.stream c.args.words.now)
    left c.args.block was becomes c.with_leaf.result) (sym all)
    (descent-more below tree after rest c.lead-way.new.above c.args.last.now c.lead-way.new.last
    (g.R.Rng.stream c.args.words.now) between left c.args.block c.lead-way.result.was c.lead-way.result.becomes
    was becomes c.lead-way.result.shown c.with_leaf.result c.lead-way.ensures map c.requires.exists
    (number_of _ _ _ same (c.swap_word-was.ensures.before ∙ map.0.each c.args.block c.requires.exists)
    ∙ c.swap_word-was.ensures.before)
    (c.low_bits-becomes.ensures.leaf
    ∙ ap₂ leaf_of c.height-in-Some.ensures.height (ap (λ p. p.0) c.next_u64-in-Some.ensures))
    (subst (λ h. becomes < 2 ^ h) c.height-in-Some.ensures.height c.low_bits-becomes.ensures.exists)
    replaced c.swap_word-was.ensures.width c.swap_word-was.ensures.tree c.swap_word-was.ensures.moved
    c.with_leaf.ensures (ap (λ p. p.1) c.next_u64-in-Some.ensures))
