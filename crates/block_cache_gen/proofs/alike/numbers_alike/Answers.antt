use Rattle.std.proofs.Common.{◌≡◌, ap, ◌∙◌, rules, w64, to_z, of_z}
use Rattle.std.specs.Prelude.{is_some}
use Rattle.std.proofs.lemmas.Int.{wraps}
use Rattle.held_registers.specs.Prelude.{register_of_number}
use Rattle.block_cache_gen.specs.Prelude.{same_flag, held_number}
use Rattle.block_cache_gen.proofs.alike.numbers_alike.Goals as goal

pub returns : goal.returns
returns c =
    let f = c.args.emitter.now in
    let one : to_z w64 (of_z w64 c.args.one) ≡ c.args.one = search (rules, wraps) in
    let other : to_z w64 (of_z w64 c.args.other) ≡ c.args.other = search (rules, wraps) in
    let first : c.is_some.result ≡ is_some (held_number f c.args.one) =
    c.is_some.ensures ∙ ap is_some (c.number_held.ensures ∙ ap (register_of_number f.held) one) in
    let second : c.is_some-2.result ≡ is_some (held_number f c.args.other) =
    c.is_some-2.ensures ∙ ap is_some (c.number_held-2.ensures ∙ ap (register_of_number f.held) other) in
    c.same_flag.ensures ∙ (λ k. same_flag (first k) (second k))
