use Rattle.std.proofs.Common.{sym, subst}
use Rattle.std.specs.Prelude.{IfOk}
use Rattle.std.proofs.lemmas.Result.{IfOk-weaker}
use Rattle.symbolic_values.specs.Prelude.{tree_of}
use Rattle.trace_patterns.specs.Prelude.{named_word, word_tree}
use Rattle.region_walk.specs.declared.states.Origin.{Origin}
use Rattle.region_walk.specs.Prelude.{origin_of, FindsNumber}
use Rattle.region_walk.proofs.TableGrowth.{found-both, slot_word-found, memory_word-found}
use Rattle.region_walk.proofs.behind.word_at.Goals as goal

pub number_for-requires-in-Loaded-clause-names : goal.number_for-requires-in-Loaded-clause-names
number_for-requires-in-Loaded-clause-names c = found-both _ _ _ _ _ _ c.requires.block c.in-Ok.ensures

pub returns-in-Entry : goal.returns-in-Entry
returns-in-Entry c =
    let o = c.args.object.now in
    let old = c.args.values.now in
    let new = c.number_for.new.values in
    let words : FindsNumber 2 old c.named.new.values (named_word o (tree_of old c.args.place)) c.in-Ok.place = rw
    (← c.profile.ensures.value, ← c.block_words.ensures.words) c.in-Ok.ensures in
    subst (λ (g : Origin). IfOk c.number_for.result
    (λ i. FindsNumber 3 old new (word_tree (origin_of g) (tree_of old c.args.block)
    (named_word o (tree_of old c.args.place))) i)) (sym c.in-Entry.is)
    (IfOk-weaker c.number_for.result _ _
    (λ i h. slot_word-found old c.named.new.values new c.in-Entry.slot c.in-Ok.place i
    (named_word o (tree_of old c.args.place)) words h) c.number_for.ensures)

pub returns-in-Loaded : goal.returns-in-Loaded
returns-in-Loaded c =
    let o = c.args.object.now in
    let old = c.args.values.now in
    let new = c.number_for-in-Loaded.new.values in
    let words : FindsNumber 2 old c.named.new.values (named_word o (tree_of old c.args.place)) c.in-Ok.place = rw
    (← c.profile.ensures.value, ← c.block_words.ensures.words) c.in-Ok.ensures in
    subst (λ (g : Origin). IfOk c.number_for-in-Loaded.result
    (λ i. FindsNumber 3 old new (word_tree (origin_of g) (tree_of old c.args.block)
    (named_word o (tree_of old c.args.place))) i)) (sym c.in-Loaded.is)
    (IfOk-weaker c.number_for-in-Loaded.result _ _
    (λ i h. memory_word-found old c.named.new.values new c.args.block c.in-Ok.place i
    (named_word o (tree_of old c.args.place)) c.requires.block words h) c.number_for-in-Loaded.ensures)
