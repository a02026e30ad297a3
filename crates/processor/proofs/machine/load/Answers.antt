use Rattle.std.proofs.Common.{◌≡◌, ◌^◌, ◌∷◌, map, sym, ap, ◌∙◌, subst}
use Rattle.lt_isa.specs.Prelude.{Parts, block_words}
use Rattle.processor.specs.Prelude.{AreBanksOf}
use Rattle.processor.proofs.Sounds.{widths_same, IsSound-fresh, fresh-view}
use Rattle.processor.proofs.machine.load.Goals as goal

pub invariant_of-banks : goal.invariant_of-banks
invariant_of-banks g c =
    let words : c.block_words-words.result ≡ block_words c.args.accepted.now =
    c.block_words-words.ensures.words ∙ ap (λ p. 2 ^ p.block_log) c.profile.ensures.value
    ∙ ap block_words c.object-object.ensures.object
    in
    widths_same g.B.Bank.width c.args.ram.width c.args.eram.width
    (block_words c.args.accepted.now) c.block_words-words.result c.args.orams.items c.requires.block_sizes words

pub invariant_of-result : goal.invariant_of-result
invariant_of-result g c =
    let words : c.block_words-words.result ≡ block_words c.object-object.result.now =
    c.block_words-words.ensures.words ∙ ap (λ p. 2 ^ p.block_log) c.profile.ensures.value in
    record {
      sound =
          IsSound-fresh c.object-object.result.now _ (c.args.ram.width ∷ c.args.eram.width
          ∷ map g.B.Bank.width c.args.orams.items) c.in_ok-pad.pad c.block_words-words.result
          (subst (λ (o : Parts).
          AreBanksOf o (c.args.ram.contents ∷ c.args.eram.contents ∷ map g.B.Bank.contents c.args.orams.items)
          (c.args.ram.width ∷ c.args.eram.width ∷ map g.B.Bank.width c.args.orams.items))
          (sym c.object-object.ensures.object) c.requires)
          c.in_ok-pad.ensures
          words;
      flat = c.in_ok-flats.ensures;
    }

pub returns : goal.returns
returns g c =
    fresh-view c.object-object.result.now c.args.accepted.now
    (c.args.ram.contents ∷ c.args.eram.contents ∷ map g.B.Bank.contents c.args.orams.items) c.args.orams.items
    c.in_ok-pad.pad c.block_words-words.result c.object-object.ensures.object c.in_ok-pad.ensures
