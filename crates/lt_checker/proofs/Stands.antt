-- Two runs of an accepted object are at one visited place, related by what is known there.
use Rattle.std.proofs.Common.{◌≡◌, ◌<◌, length, Option, Some, None, refl}
use Rattle.lt_isa.specs.Prelude.{Parts, State}
use Rattle.trace_patterns.specs.Prelude.{Known, claimed_at, VisitedAt, Noted, Unnoted, Accepts}
use Rattle.lt_checker.proofs.Related.{Related}
use Rattle.lt_checker.proofs.Weaker.{weaker}
use Rattle.lt_checker.proofs.Made.{LandsAt, Reached}

-- two runs are at a visited place, related by what is known there
pub record Stand (o : Parts) (s t : State) : Type 0 where
  pub known : Known
  pub inside : s.place < length o.code
  pub visited : VisitedAt o s.place known
  pub related : Related known s t

-- a place that is reached, with or without a note
behind_by : (o : Parts) (k : Known) (s t : State) (claimed : Option Known) → claimed_at o s.place ≡ claimed → Accepts o
    → Reached o s.place k → Related k s t → Stand o s t
behind_by o k s t None at accepts reached h =
    record { known = k; inside = reached.inside; visited = Unnoted s.place k at reached.comes; related = h }
behind_by o k s t (Some claimed) at accepts reached h = record {
  known = claimed;
  inside = reached.inside;
  visited = Noted s.place claimed at;
  related = weaker k claimed s t (accepts.fitting s.place reached.inside k claimed reached.comes at) h;
}

-- two related runs at a place that is reached
pub stand_behind : (o : Parts) (k : Known) (s t : State) → Accepts o → Reached o s.place k → Related k s t → Stand o s t
stand_behind o k s t accepts reached h = behind_by o k s t (claimed_at o s.place) refl accepts reached h

-- two related runs at the target of a jump
pub stand_at : (o : Parts) (k : Known) (s t : State) → LandsAt o s.place k → Related k s t → Stand o s t
stand_at o k s t lands h = record {
  known = lands.claimed;
  inside = lands.inside;
  visited = Noted s.place lands.claimed lands.claims;
  related = weaker k lands.claimed s t lands.fits h;
}
