use Rattle.std.proofs.Common.{◌+◌, ℕ, List, ◌++◌, ◌∙◌, ap, refl, take}
use Rattle.std.proofs.lemmas.Result.{on_ok_weaker}
use Rattle.lt_isa.specs.declared.instructions.Instr.{Instr}
use Rattle.word_selection.specs.Prelude.{selected_read}
use Rattle.block_cache_gen.specs.Prelude.{no_notes, slots_of_home, words_a_block, home_in}
use Rattle.block_cache_gen.proofs.ElementSlots.{read_is}
use Rattle.block_cache_gen.proofs.Emitting.{appended_as}
use Rattle.block_cache_gen.proofs.elements.put_selected_read.Goals as goal

pub returns-clause-appended : goal.returns-clause-appended
returns-clause-appended c =
    let f = c.args.emitter.now in
    let v = c.args.array in
    let slots : List ℕ = take (c.from.result + 1) c.slots_of-slots.result in
    let code : List Instr = selected_read c.block_words.result slots c.args.to in
    on_ok_weaker c.put.result
    (appended_as c.args.out.now c.put.new.self c.deref.result.now
    (selected_read (words_a_block f) (slots_of_home (home_in v)) c.args.to) no_notes no_notes
    (c.deref.ensures.value
    ∙ c.in_ok-put_read.ensures
    ∙ ap (λ (items : List Instr). items ++ code) c.new-code.ensures.items
    ∙ read_is f v c.args.to c.block_words.result slots c.requires.few c.block_words.ensures.value
    (λ k. take (c.from.ensures k + 1) (c.slots_of-slots.ensures k)))
    (λ place. refl))
    c.put.ensures.appended
