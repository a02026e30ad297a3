use Rattle.std.proofs.Common.{◌≡◌, ◌++◌, take, flat_map}
use Rattle.object_file.specs.Prelude.{number}
use Rattle.object_file.proofs.encoding.put_claims.Given as goal

abbrev pub invariant-loop-claim : goal.invariant-loop-claim
invariant-loop-claim l = l.out.items ≡ l.initial.out.items ++ flat_map (number 1) (take l.claim-index l.claims)
