use Rattle.std.proofs.Common.{◌-◌, ℤ, length, subst}
use Rattle.lt_isa.proofs.Offsets.{handed_on}
use Rattle.lt_isa.specs.Prelude.{IsOffset}
use Rattle.trace_patterns.specs.Prelude.{at_entry, BlockedAt}
use Rattle.region_walk.specs.Prelude.{IsCrossed}
use Rattle.lt_checker.proofs.PlaceRelations.{crossed-joins, blocked-stuck}
use Rattle.lt_checker.proofs.places.opened.Goals as goal

pub returns-in-Crosses : goal.returns-in-Crosses
returns-in-Crosses c =
    let o = c.args.object.now in
    let k = c.args.known.now in
    let offset = c.args.offset in
    let small : IsOffset offset = c.requires.offset in
    let same = handed_on offset small in
    let crossed = subst (λ (z : ℤ). IsCrossed o c.args.place z k c.in-Crosses.join c.in-Crosses.after) same
    c.in-Crosses.ensures in
    crossed-joins o c.args.place offset k c.in-Crosses.join c.in-Crosses.after crossed

pub returns-in-Blocked : goal.returns-in-Blocked
returns-in-Blocked c =
    let o = c.args.object.now in
    let k = c.args.known.now in
    let offset = c.args.offset in
    let small : IsOffset offset = c.requires.offset in
    let same = handed_on offset small in
    let blocked = subst (λ (z : ℤ). BlockedAt o 0 (length o.code - 1) c.args.place z
    (at_entry k) c.in-Blocked.place c.in-Blocked.reason) same c.in-Blocked.ensures in
    blocked-stuck o c.args.place offset k c.in-Blocked.place c.in-Blocked.reason blocked
