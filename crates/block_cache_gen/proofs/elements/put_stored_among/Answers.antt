use Rattle.std.proofs.Common.{ℕ, ◌≤◌, ◌+◌, List, ◌++◌, ◌∙◌, ap, arith, length, refl, rules, take}
use Rattle.std.proofs.lemmas.Result.{on_ok_weaker}
use Rattle.lt_isa.specs.declared.instructions.Instr.{Instr}
use Rattle.word_selection.specs.Prelude.{selected_write}
use Rattle.block_cache_gen.specs.Prelude.{stored_among, no_notes, further_slots, home_in}
use Rattle.block_cache_gen.proofs.ElementSlots.{write_is}
use Rattle.block_cache_gen.proofs.Emitting.{appended_as}
use Rattle.block_cache_gen.proofs.elements.put_stored_among.Goals as goal

pub returns-clause-appended : goal.returns-clause-appended
returns-clause-appended c =
    let f = c.args.emitter.now in
    let v = c.args.array in
    let slots : List ℕ = take (c.from.result + 1) c.slots_of-slots.result in
    let code : List Instr = selected_write c.effect_of.result c.block_words.result c.args.value slots 1 in
    let some : 1 ≤ v.further = omega (arith, c.if-array-eq0.false) in
    let more : 1 ≤ length v.more = search rules in
    on_ok_weaker c.put.result
    (appended_as c.args.out.now c.put.new.self c.deref.result.now
    (stored_among f c.args.mode v.slot (further_slots (home_in v)) c.args.value) no_notes no_notes
    (c.deref.ensures.value
    ∙ c.in_ok-put_write.ensures
    ∙ ap (λ (items : List Instr). items ++ code) c.new-code.ensures.items
    ∙ write_is f c.args.mode v c.effect_of.result c.args.value c.block_words.result slots c.requires.few some more
    c.effect_of.ensures c.block_words.ensures.value
    (λ k. take (c.from.ensures k + 1) (c.slots_of-slots.ensures k)))
    (λ place. refl))
    c.put.ensures.appended
