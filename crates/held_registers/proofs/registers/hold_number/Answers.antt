use Rattle.std.proofs.Common.{◌≡◌, sym, ap, ◌∙◌, to_z, of_z, w64}
use Rattle.std.proofs.lemmas.Int.{to_z-of_z}
use Rattle.held_registers.specs.Prelude.{register_of_number}
use Rattle.held_registers.proofs.Sound.{number-there}
use Rattle.held_registers.proofs.registers.hold_number.Goals as goal

pub returns-then-is_some : goal.returns-then-is_some
returns-then-is_some c =
    let read : register_of_number c.as_slice.result.now (to_z w64 (of_z w64 c.args.number))
    ≡ register_of_number c.args.held.now.items c.args.number =
    ap (register_of_number c.as_slice.result.now) (to_z-of_z w64 c.args.number c.ranges.number)
    ∙ ap (λ l. register_of_number l c.args.number) c.as_slice.ensures.value in
    number-there c.args.held.now.items c.args.number c.register_of_number.result
    (c.register_of_number.ensures.register ∙ read)
    (sym c.is_some.ensures ∙ c.if-is_some.true)
