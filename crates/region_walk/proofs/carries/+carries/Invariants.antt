use Rattle.std.proofs.Common.{◌+◌, ◌-◌, ◌*◌}
use Rattle.region_walk.specs.Prelude.{LeadsOn}
use Rattle.region_walk.proofs.carries.+carries.Given as goal

abbrev pub decreases-carry_to : goal.decreases-carry_to
decreases-carry_to l = 4 * (l.arm.now.end - l.start) + 2

abbrev pub decreases-carry_on : goal.decreases-carry_on
decreases-carry_on l = 4 * (l.arm.now.end - l.place) + 1

abbrev pub decreases-carry_over : goal.decreases-carry_over
decreases-carry_over l = 4 * (l.arm.now.end - l.place)

abbrev pub invariant-carry_to-loop-place : goal.invariant-carry_to-loop-place
invariant-carry_to-loop-place l =
    LeadsOn l.arm.object.now l.arm.depth l.arm.end l.start l.initial.values l.initial.state l.place l.values l.state

abbrev pub decreases-carry_to-loop-place : goal.decreases-carry_to-loop-place
decreases-carry_to-loop-place l = l.arm.end - l.place
