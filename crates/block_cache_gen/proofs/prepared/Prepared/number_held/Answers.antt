use Rattle.std.proofs.Common.{◌≡◌, ap, ◌∙◌, rules, w64, to_z, of_z}
use Rattle.std.proofs.lemmas.Int.{wraps}
use Rattle.held_registers.specs.Prelude.{register_of_number}
use Rattle.block_cache_gen.proofs.prepared.Prepared.number_held.Goals as goal

pub returns : goal.returns
returns c =
    let same : to_z w64 (of_z w64 c.args.number) ≡ c.args.number = search (rules, wraps) in
    c.register_of_number.ensures.register
    ∙ ap (register_of_number c.self.inside.frame.held.now) same
    ∙ ap (λ f. register_of_number f.held c.args.number) c.self.view_is
