-- How the branches that are crossed grow. (Only clauses of the search cite this.)
use Rattle.std.specs.Prelude.{◌≡◌, ℕ, zero, suc, ◌+◌, ◌<◌, List, length, Option, Some, None}
use Rattle.lt_isa.specs.Object.{Parts}
use Rattle.trace_patterns.specs.Known.{Known}
use Rattle.note_infer.specs.Ways.{is_crossed}
use Rattle.note_infer.specs.Least.{IsLeast, MayJoin, HasGrown, IsLast}
use Rattle.note_infer.specs.UnderWay.{one_unless}
use Rattle.note_infer.specs.Brings.{AllSound, at_places}
use Rattle.note_infer.specs.declared.joining.Joining.{Joining}

-- a list has the least states, each of them sound
pub record HasLeast (o : Parts) (crossed : List ℕ) (states : List (Option Known)) : Type 0 where
  pub size : length states ≡ length o.code
  pub least : IsLeast o crossed (at_places states)
  pub sound : AllSound o states

-- a branch may join, and this is the join of its region
pub record MayJoinTo (o : Parts) (crossed : List ℕ) (states : List (Option Known)) (place join : ℕ) : Type 0 where
  pub may : MayJoin o crossed (at_places states) place
  pub joins : may.join ≡ join

-- whether a branch may join, and where its region ends then, as it is answered
abbrev pub AnswersJoin : Parts → List ℕ → List (Option Known) → ℕ → Option ℕ → Type 0
AnswersJoin o crossed states place None = ¬ MayJoin o crossed (at_places states) place
AnswersJoin o crossed states place (Some join) = MayJoinTo o crossed states place join

-- the lowest branch that may join, if one may
pub record IsLowestToJoin (o : Parts) (crossed : List ℕ) (states : List (Option Known)) (place join : ℕ)
    : Type 0 where
  pub inside : place < length o.code
  pub to : MayJoinTo o crossed states place join
  pub lowest : (q : ℕ) → q < place → ¬ MayJoin o crossed (at_places states) q

abbrev pub IsNextToJoin : Parts → List ℕ → List (Option Known) → Option Joining → Type 0
IsNextToJoin o crossed states None = (p : ℕ) → ¬ MayJoin o crossed (at_places states) p
IsNextToJoin o crossed states (Some found) = IsLowestToJoin o crossed states found.place found.join

-- what the loop over joining branches keeps, and how many places are left that may join
pub record GrowthHolds (o : Parts) (size : ℕ) (crossed : List ℕ) (states : List (Option Known)) : Type 0 where
  pub grown : HasGrown o crossed
  pub size_is : size ≡ length o.code
  pub has : HasLeast o crossed states

unfoldable pub places_left : ℕ → List ℕ → ℕ
places_left zero crossed = 0
places_left (suc n) crossed = one_unless (is_crossed crossed n) + places_left n crossed

-- the last branches that are crossed, and the least states under them
pub record HasLast (o : Parts) (crossed : List ℕ) (states : List (Option Known)) : Type 0 where
  pub last : IsLast o crossed (at_places states)
  pub has : HasLeast o crossed states
