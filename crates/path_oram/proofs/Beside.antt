-- The buckets off a path keep their slots, and don't hold the accessed block.
use Rattle.std.proofs.Common.{◌≡◌, ◌≢◌, ℕ, suc, ◌^◌, ◌<◌, List, [], length, get_or, set, All, sym, ap, ◌∙◌, subst, arith}
use Rattle.std.proofs.lemmas.List.{get_or_default}
use Rattle.path_oram.specs.declared.bucket.Placed.{Placed}
use Rattle.path_oram.specs.Prelude.{IsOff, held, on_path, poured, AllHaveLeaves, IsNotBeside, blocks_in, tree_blocks}
use Rattle.path_oram.proofs.PathNumbers.{path_within}
use Rattle.path_oram.proofs.Poured.{poured_off, poured_on}
use Rattle.path_oram.proofs.Slots.{count_blocks, held_blocks, others_have}

pub beside_have : (leaves : List ℕ) (block new height old : ℕ) (before after : List (List Placed))
    → old < 2 ^ height → length (tree_blocks before) ≡ 2 ^ suc height
    → tree_blocks after ≡ poured (on_path height old) (tree_blocks before) (suc height)
    → AllHaveLeaves leaves after → IsNotBeside height old (tree_blocks before) block
    → AllHaveLeaves (set leaves block new) after
beside_have leaves block new height old before after small wide is have elsewhere number d less k e within =
    let path = on_path height old in
    let bucket = get_or after number d in
    let held_is : held (tree_blocks after) number ≡ blocks_in bucket =
    held_blocks after number ∙ ap blocks_in (sym (get_or_default after number d [] less)) in
    let off : IsOff height old number = λ level low on.
    let none : held (tree_blocks after) number ≡ [] =
    ap (λ t. held t number) is ∙ ap (held (poured path (tree_blocks before) (suc height))) on
    ∙ poured_on path (tree_blocks before) (suc height) level (omega (arith, low))
    (path_within height old (suc height) _ small wide (omega arith)) in
    omega (arith, within, count_blocks bucket, ap length held_is, ap length none) in
    let kept : held (tree_blocks after) number ≡ held (tree_blocks before) number =
    ap (λ t. held t number) is
    ∙ poured_off path (tree_blocks before) (suc height) number (λ level below. off level (omega (arith, below))) in
    let others : All (λ b. b ≢ block) (blocks_in bucket) =
    subst (All (λ b. b ≢ block)) (sym kept ∙ held_is) (elsewhere number off) in
    others_have leaves block new bucket (have number d less) others k e within
