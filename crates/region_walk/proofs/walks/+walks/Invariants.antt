use Rattle.std.proofs.Common.{◌+◌, ◌-◌, ◌*◌}
use Rattle.region_walk.specs.Prelude.{GoesTo}
use Rattle.region_walk.proofs.walks.+walks.Given as goal

abbrev pub decreases-walk : goal.decreases-walk
decreases-walk l = 4 * (l.arm.now.end - l.start) + 3

abbrev pub decreases-next_place : goal.decreases-next_place
decreases-next_place l = 4 * (l.arm.now.end - l.place) + 2

abbrev pub decreases-beyond_region : goal.decreases-beyond_region
decreases-beyond_region l = 4 * (l.arm.now.end - l.place) + 1

abbrev pub decreases-region_of : goal.decreases-region_of
decreases-region_of l = 4 * (l.arm.now.end - l.place)

abbrev pub invariant-walk-loop-place : goal.invariant-walk-loop-place
invariant-walk-loop-place l =
    GoesTo l.arm.object.now l.arm.depth l.arm.end l.start l.initial.values l.initial.way l.place l.values l.way

abbrev pub decreases-walk-loop-place : goal.decreases-walk-loop-place
decreases-walk-loop-place l = l.arm.end - l.place
