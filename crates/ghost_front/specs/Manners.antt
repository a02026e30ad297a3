-- How faults and warnings are printed to standard error, by the words of a call.
use Rattle.std.specs.Prelude.{ℕ, Bool, true, false, not, List, [], ◌∷◌, codes, if◌then◌else◌}
use Rattle.std.specs.Str.{bytes_eq}
use Rattle.ghost_front.specs.declared.requests.Manner.{Manner}
use Rattle.ghost_front.specs.declared.requests.Manner.TheVariants.{Json, Quiet, Words}

-- the first word is this one
abbrev pub first_is : List ℕ → List (List ℕ) → Bool
first_is wanted [] = false
first_is wanted (word ∷ words) = bytes_eq word wanted

-- `--json` prints lines of JSON, and `--quiet` nothing. Both before the verb are a usage error: with `--json` among them it
-- is printed as JSON.
abbrev pub manner_of : List ℕ → List (List ℕ) → Manner
manner_of first rest =
    if bytes_eq first (codes "--json") then Json
    else if not (bytes_eq first (codes "--quiet")) then Words
    else if first_is (codes "--json") rest then Json
    else if first_is (codes "--quiet") rest then Words
    else Quiet

-- a program that doesn't explain prints nothing
abbrev pub manner_in : Bool → List (List ℕ) → Manner
manner_in false words = Quiet
manner_in true [] = Words
manner_in true (word ∷ words) = manner_of word words
