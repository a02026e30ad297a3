use Rattle.std.proofs.Common.{◌≡◌, ◌≤◌, drop}
use Rattle.resident_alloc.specs.Prelude.{room_after}
use Rattle.resident_alloc.proofs.sharing.room_after.Given as goal

abbrev pub invariant-loop-v : goal.invariant-loop-v
invariant-loop-v l = (room_after l.class l.left (drop l.v-index l.vs) ≡ room_after l.class l.room l.vs) × (l.left ≤ l.room)
