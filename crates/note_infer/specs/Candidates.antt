-- A branch that joins where its region is shaped. (Only clauses of the search cite this.)
use Rattle.std.specs.Prelude.{◌≡◌, ℕ, ◌||◌, true, false, List, slice_index_or, Option, Some, None}
use Rattle.lt_isa.specs.Object.{Parts}
use Rattle.trace_patterns.specs.Known.{Known, is_secret}
use Rattle.note_infer.specs.Ways.{is_crossed}
use Rattle.note_infer.specs.Least.{MayJoin}
use Rattle.note_infer.specs.Brings.{at_places}
use Rattle.note_infer.specs.Branches.{BranchIsAt}
use Rattle.note_infer.specs.declared.joining.Branch.{Branch}
use Rattle.note_infer.specs.declared.joining.Candidate.{Candidate}

-- it is reached where this is known, isn't crossed, and compares a secret register
pub record IsCandidateAt (o : Parts) (crossed : List ℕ) (states : List (Option Known)) (place : ℕ) (known : Known)
    (b : Branch) : Type 0 where
  pub reached : slice_index_or states place None ≡ Some known
  pub apart : is_crossed crossed place ≡ false
  pub stands : BranchIsAt o place b
  pub secret : (is_secret known b.ra || is_secret known b.rb) ≡ true

abbrev pub IsCandidate : Parts → List ℕ → List (Option Known) → ℕ → Option Candidate → Type 0
IsCandidate o crossed states place None = ¬ MayJoin o crossed (at_places states) place
IsCandidate o crossed states place (Some c) = IsCandidateAt o crossed states place c.known c.branch
