use Rattle.std.proofs.Common.{◌≡◌, ◌∙◌, subst}
use Rattle.std.specs.Prelude.{IfOk}
use Rattle.src_lexer.proofs.KnownNames.{own_found, own_added}
use Rattle.src_lexer.proofs.known_names.KnownNames.name_of.Goals as goal

pub returns-in-Some : goal.returns-in-Some
returns-in-Some c =
    subst (λ bytes. IfOk c.copy.result (λ name. name ≡ bytes))
    (own_found c.self.inside.names c.args.bytes.now c.in-Some.name.now c.in-Some.ensures.value c.self.invariant)
    c.copy.ensures

pub invariant_of-self-2 : goal.invariant_of-self-2
invariant_of-self-2 c =
    own_added c.self.inside.names c.insert.new.self c.args.bytes c.in_ok-copy.field-0
    (c.in_ok-copy.ensures ∙ c.in_ok-name.ensures) c.in_ok-insert.ensures.updates.0 c.self.invariant
