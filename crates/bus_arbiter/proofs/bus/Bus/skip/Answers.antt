use Rattle.std.proofs.Common.{◌*◌, ◌/◌, length, refl, ◌∙◌, arith}
use Rattle.std.proofs.Math.Nat.{div-mul-le_self}
use Rattle.bus_arbiter.proofs.Pausing.{later-early, later-whole, skips-on}
use Rattle.bus_arbiter.proofs.bus.Bus.skip.Goals as goal

pub returns-clause-most : goal.returns-clause-most
returns-clause-most g c =
    omega (
      arith,
      c.max.ensures,
      c.pause_all-soonest.ensures.most,
      div-mul-le_self c.pause_all-soonest.result c.args.period,
    )

pub returns-clause-whole_periods : goal.returns-clause-whole_periods
returns-clause-whole_periods g c =
    let count = c.pause_all-soonest.result / c.args.period in
    let both =
    later-whole c.args.from (count * c.args.period) c.args.period c.requires.whole_periods (count, refl) in
    (both.0, c.max.ensures ∙ both.1)

pub returns-clause-stay : goal.returns-clause-stay
returns-clause-stay g c =
    let after = c.pause_all-soonest.new.self.cores in
    skips-on c.args.self.now.cores after (length after) c.args.from c.pause_all-soonest.result c.max.result
    c.args.cycles c.pause_all-soonest.ensures.stay c.pause_all-soonest.ensures.none (omega arith)
    (omega (arith, c.max.ensures))
    (later-early c.args.from c.pause_all-soonest.result c.args.period c.max.result c.max.ensures)
