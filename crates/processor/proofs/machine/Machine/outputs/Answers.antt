use Rattle.std.proofs.Common.{◌≡◌, ◌<◌, length, get_or, map, sym, ap, ◌∙◌, subst, arith}
use Rattle.std.proofs.lemmas.List.{take_all}
use Rattle.lt_isa.specs.Prelude.{IsInRange, symbol_words, outputs}
use Rattle.processor.specs.Prelude.{LiesIn}
use Rattle.processor.proofs.Sounds.{LiesIn-at}
use Rattle.processor.proofs.machine.Machine.outputs.Goals as goal

pub words_of-requires : goal.words_of-requires
words_of-requires g c =
    let symbol = c.symbol-item.result in
    let o = c.args.self.now.object in
    let listed : c.symbols-symbol-items.result.now ≡ o.symbols =
    c.symbols-symbol-items.ensures.value ∙ ap (λ m. m.object.symbols) c.self.view_is in
    let read : symbol ≡ get_or o.symbols c.loop-symbol.symbol-index symbol =
    c.symbol-item.is ∙ ap (λ l. get_or l c.loop-symbol.symbol-index symbol) listed in
    let range = subst IsInRange (ap (λ m. m.object) c.self.view_is) c.symbols-symbol-items.ensures.in_range in
    let within : c.loop-symbol.symbol-index < length o.symbols = omega (arith, ap length listed) in
    subst (LiesIn o) (sym read) (LiesIn-at o range c.loop-symbol.symbol-index symbol within)

pub returns : goal.returns
unfolding outputs
returns g c =
    let listed : c.symbols-symbol-items.result.now ≡ c.args.self.now.object.symbols =
    c.symbols-symbol-items.ensures.value ∙ ap (λ m. m.object.symbols) c.self.view_is in
    c.loop-symbol.invariant
    ∙ ap (λ l. map (symbol_words c.args.self.now.object c.args.self.now.state) l)
    (take_all _ c.symbols-symbol-items.result.now (omega arith) ∙ listed)
