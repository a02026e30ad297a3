use Rattle.std.proofs.Common.{◌≡◌, ◌<◌, get_or, sym, ap, ◌∙◌, subst, rules}
use Rattle.std.proofs.lemmas.Int.{wraps}
use Rattle.lt_isa.specs.declared.symbols.Symbol.{Symbol}
use Rattle.lt_isa.specs.Prelude.{IsInRange, symbol_word}
use Rattle.processor.specs.Prelude.{LiesIn}
use Rattle.processor.proofs.Sounds.{LiesIn-at, there_is, if_there_is}
use Rattle.processor.proofs.machine.Machine.word.Given.{Over}
use Rattle.processor.proofs.machine.Machine.word.Goals.{After-index-symbols-symbol}
use Rattle.processor.proofs.machine.Machine.word.Goals as goal

-- the symbol of that number is read
read : (g : Over) (c : After-index-symbols-symbol g)
    → c.index-symbols-symbol.result ≡ get_or c.args.self.now.object.symbols c.args.symbol c.index-symbols-symbol.result
read g c =
    let symbol = c.index-symbols-symbol.result in
    c.index-symbols-symbol.is ∙ ap (λ l. get_or l c.args.symbol symbol) c.symbols.ensures.value
    ∙ ap (λ m. get_or m.object.symbols c.args.symbol symbol) c.self.view_is

pub word_of-requires-clause-lies : goal.word_of-requires-clause-lies
word_of-requires-clause-lies g c =
    let symbol = c.index-symbols-symbol.result in
    let o = c.args.self.now.object in
    let range = subst IsInRange (ap (λ m. m.object) c.self.view_is) c.symbols.ensures.in_range in
    let there = there_is (λ (s : Symbol). c.args.index < s.length) o.symbols c.args.symbol symbol c.requires in
    subst (LiesIn o) (sym (read g c)) (LiesIn-at o range c.args.symbol symbol there.0)

pub word_of-requires-clause-within : goal.word_of-requires-clause-within
word_of-requires-clause-within g c =
    let there = there_is (λ (s : Symbol). c.args.index < s.length) c.args.self.now.object.symbols c.args.symbol
    c.index-symbols-symbol.result c.requires in
    subst (λ (s : Symbol). c.args.index < s.length) (sym (read g c)) there.1

pub returns : goal.returns
returns g c =
    let symbol = c.index-symbols-symbol.result in
    let o = c.args.self.now.object in
    let there = there_is (λ (s : Symbol). c.args.index < s.length) o.symbols c.args.symbol symbol c.requires in
    let word : c.word_of.result
    ≡ symbol_word o c.args.self.now.state (get_or o.symbols c.args.symbol symbol) c.args.index =
    c.word_of.ensures ∙ ap (λ (s : Symbol). symbol_word o c.args.self.now.state s c.args.index)
    (read g (goal.at.returns g c).After-index-symbols-symbol) in
    if_there_is _ o.symbols c.args.symbol symbol there.0 (search (rules, wraps))
