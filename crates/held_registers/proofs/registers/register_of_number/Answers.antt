use Rattle.std.proofs.Common.{◌+◌, sym, ap, ◌∙◌, to_z, of_z, w64}
use Rattle.std.specs.Option.{option_map}
use Rattle.std.proofs.lemmas.Int.{to_z-of_z}
use Rattle.held_registers.proofs.Sound.{number-register}
use Rattle.held_registers.proofs.registers.register_of_number.Goals as goal

pub returns-in-Some : goal.returns-in-Some
returns-in-Some c = record {
  register =
      ap (option_map (λ j. j + 19)) (sym c.in-Some.is)
      ∙ number-register c.args.held.now c.args.number (to_z w64 (of_z w64 c.args.number)) c.place_of_number.result
      (to_z-of_z w64 c.args.number c.ranges.number) c.place_of_number.ensures;
}

pub returns-in-None : goal.returns-in-None
returns-in-None c = record {
  register =
      ap (option_map (λ j. j + 19)) (sym c.in-None.is)
      ∙ number-register c.args.held.now c.args.number (to_z w64 (of_z w64 c.args.number)) c.place_of_number.result
      (to_z-of_z w64 c.args.number c.ranges.number) c.place_of_number.ensures;
}
