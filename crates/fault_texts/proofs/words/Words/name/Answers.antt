use Rattle.std.proofs.Common.{ℕ, List, flat_map, sym, ◌∙◌, subst, map-id}
use Rattle.std.proofs.lemmas.Iterator.{YieldsList-from_chars}
use Rattle.std.proofs.lemmas.Iterator.Consumers.{YieldsList-end}
use Rattle.gr_base.specs.Prelude.{Adds}
use Rattle.fault_texts.specs.Prelude.{escaped_char}
use Rattle.fault_texts.proofs.words.Words.name.Goals as goal

pub returns : goal.returns
returns c =
    let end =
    YieldsList-end (YieldsList-from_chars c.args.name.now c.utf8.name cc) c.loop-c.yielded _ c.loop-c.yielded_by _ _
    c.in-None.is c.next.ensures.steps in
    let P : List ℕ → Type 0 = λ characters. Adds c.args.self.now c.loop-c.self (flat_map escaped_char characters) in
    subst P (sym (map-id c.loop-c.yielded) ∙ end.0) c.loop-c.invariant
