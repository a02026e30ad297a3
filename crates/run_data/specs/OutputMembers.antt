-- The map of the code from names to shapes and words. Only for private clauses and proofs.
use Rattle.std.specs.Prelude.{ℕ, ℤ, List, [], ◌∷◌, IsTrue}
use Rattle.std.specs.Borrow.{Bor}
use Rattle.serde_json.specs.Data.{Members, no_members, member}
use Rattle.gr_word.specs.Names.{is_name}
use Rattle.gr_word.specs.declared.variables.Shape.{Shape}
use Rattle.run_data.specs.OutputText.{shown}

-- its entries as members
abbrev pub members_seen : List (Bor (List ℕ) × (Shape × Bor (List ℤ))) → Members
members_seen [] = no_members
members_seen (entry ∷ entries) = member entry.0.now (shown entry.1.0 entry.1.1.now) (members_seen entries)

-- their names are names of variables
abbrev pub HaveNames : List (Bor (List ℕ) × (Shape × Bor (List ℤ))) → Type 0
HaveNames [] = Unit {0}
HaveNames (entry ∷ entries) = IsTrue (is_name entry.0.now) × HaveNames entries
