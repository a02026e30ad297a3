use Rattle.std.proofs.Common.{subst}
use Rattle.lt_isa.specs.Prelude.{IsInRange}
use Rattle.processor.proofs.LoadedBanks.{loaded-fit, loaded-running, loaded-state}
use Rattle.processor.proofs.starting.load_over.Goals as goal

pub load-requires : goal.load-requires
load-requires g c =
    loaded-fit c.args.accepted.now
    (subst IsInRange c.object.ensures.object c.banks.ensures.in_range) c.args.inputs.now c.requires.fits
    c.in_ok-ram.ram c.in_ok-eram.eram g.B.Bank.contents g.B.Bank.width c.args.orams.items c.in_ok-ram.ensures
    c.in_ok-eram.ensures c.requires.banks c.requires.widths

pub returns : goal.returns
returns g c =
    loaded-running c.load.result c.args.accepted.now _ _ c.args.orams.items
    (loaded-state c.args.accepted.now
    (subst IsInRange c.object.ensures.object c.banks.ensures.in_range) c.args.inputs.now c.requires.fits
    c.in_ok-ram.ram c.in_ok-eram.eram g.B.Bank.contents g.B.Bank.width c.args.orams.items c.in_ok-ram.ensures
    c.in_ok-eram.ensures c.requires.banks c.requires.widths)
    c.load.ensures
