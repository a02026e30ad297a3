-- The greatest of a heap whose order is turned round is its lowest place.
use Rattle.std.proofs.lemmas.List.Sorted.{IsPermutation-map}
use Rattle.note_infer.proofs.JoinersListed.{lowest_by}
use Rattle.note_infer.proofs.joiners.Joiners.pop.Goals.{in-None, in-Some}
use Rattle.note_infer.proofs.joiners.Joiners.pop.Goals as goal

pub returns-clause-taken : goal.returns-clause-taken
returns-clause-taken c =
    elim c.match-pop.branch [
      | in-None w ↦ rw w.result-is tt
      | in-Some w ↦ rw w.result-is
          (rw (← c.self.view_is) (IsPermutation-map (λ r. r.0) _ _ w.in-Some.ensures.permutation))
    ]

pub returns-clause-lowest : goal.returns-clause-lowest
returns-clause-lowest c =
    elim c.match-pop.branch [
      | in-None w ↦ rw w.result-is tt
      | in-Some w ↦ rw w.result-is
          (rw (← c.self.view_is) (lowest_by (λ r. r.0) _ _ (w.in-Some.ensures.heap_order c.self.invariant).1))
    ]
