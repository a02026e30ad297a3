-- The places of a heap with one more.
use Rattle.std.proofs.Common.{ap, map}
use Rattle.std.proofs.lemmas.List.Sorted.{IsPermutation-map}
use Rattle.note_infer.proofs.joiners.Joiners.push.Goals.{in-Err, in-Ok}
use Rattle.note_infer.proofs.joiners.Joiners.push.Goals as goal

pub returns-clause-added : goal.returns-clause-added
returns-clause-added c =
    elim c.match-push.branch [
      | in-Err w ↦ rw w.result-is tt
      | in-Ok w ↦ rw w.result-is
          (rw (← c.self.view_is) (IsPermutation-map (λ r. r.0) _ _ w.in-Ok.ensures.permutation))
    ]

pub returns-clause-unchanged : goal.returns-clause-unchanged
returns-clause-unchanged c =
    elim c.match-push.branch [
      | in-Err w ↦ rw w.result-is (rw (← c.self.view_is) (ap (map (λ r. r.0)) w.in-Err.ensures.unchanged.0))
      | in-Ok w ↦ rw w.result-is tt
    ]
