use Rattle.std.proofs.Common.{ℕ, ℤ, subst}
use Rattle.lt_isa.proofs.Offsets.{handed_on}
use Rattle.lt_isa.specs.Prelude.{IsOffset}
use Rattle.trace_patterns.specs.Prelude.{JoinsIn, Known}
use Rattle.region_walk.proofs.regions.carry.Goals as goal

pub returns-in-Unshaped : goal.returns-in-Unshaped
returns-in-Unshaped c =
    let offset = c.args.offset in
    let small : IsOffset offset = c.requires.offset in
    let same = handed_on offset small in
    subst (λ (z : ℤ). (join : ℕ) (next : Known)
    → JoinsIn c.args.object.now c.args.place z c.args.known.now join next → ⊥) same c.in-Unshaped.ensures.carried
