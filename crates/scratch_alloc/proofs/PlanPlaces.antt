-- The places of a sound plan are within its banks, and no two variables share a word.
use Rattle.std.proofs.Common.{ℕ}
use Rattle.src_tree.specs.Prelude.{Source}
use Rattle.bank_alloc.specs.Prelude.{ArePlacesIn}
use Rattle.scratch_alloc.specs.Prelude.{Plan, IsSoundPlan}

pub plan_places : (p : Source) (w : ℕ) (plan : Plan)
    → IsSoundPlan p w plan → ArePlacesIn p w plan.blocks plan.places
plan_places p w plan sound = record {
  count = sound.places;
  limits = λ b there. (sound.blocks b there).1;
  place = λ k below.
      let is = sound.place k below in
      record { bank = is.bank; words = is.words; word = is.word; inside = is.inside };
  apart = sound.apart;
}
