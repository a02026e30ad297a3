use Rattle.std.proofs.Common.{◌≡◌, drop}
use Rattle.bus_arbiter.specs.Prelude.{of_overlap}
use Rattle.bus_arbiter.proofs.plans.overlap.Given as goal

abbrev pub invariant-loop-core : goal.invariant-loop-core
invariant-loop-core l = of_overlap l.core (drop l.core l.shares) l.share ≡ of_overlap 0 l.shares l.share
