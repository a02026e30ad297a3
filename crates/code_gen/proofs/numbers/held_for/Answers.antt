use Rattle.std.proofs.Common.{◌≤◌, length, subst, sym}
use Rattle.held_registers.proofs.Sound.{held_scalars-sound}
use Rattle.code_gen.proofs.numbers.held_for.Goals as goal

pub hold_places-requires : goal.hold_places-requires
hold_places-requires c = record {
  few =
      subst (λ held. length held ≤ 13) (sym c.in_ok-held.ensures)
      (let sound = held_scalars-sound c.as_slice.result.now in sound.few);
}
