-- For the proofs and for private clauses only: what is looked up of a variable.
use Rattle.std.specs.Prelude.{ℕ, ◌+◌, ◌==◌, List, [], ◌∷◌, Option, Some, None, bytes_eq, slice_index_or, take, if◌then◌else◌}
use Rattle.std.specs.List.{list_any}
use Rattle.lt_isa.specs.Ranges.{any_bank}
use Rattle.src_tree.specs.declared.trees.Decl.{Decl}
use Rattle.bank_alloc.specs.declared.places.Place.{Place}
use Rattle.block_cache_gen.specs.declared.variables.Variable.{Variable}
use Rattle.held_registers.specs.Held.{register_of_scalar}
use Rattle.block_cache_gen.specs.Homes.{Held, Home, Pin}
use Rattle.block_cache_gen.specs.Notes.{claim_by}
use Rattle.block_cache_gen.specs.Settings.{is_pinned, further_blocks, four_slots}

abbrev pub home_in : Variable → Home
home_in v = record {
  bank = v.place.bank;
  block = v.place.block;
  word = v.place.word;
  length = v.place.length;
  slot = v.slot;
  resident = v.resident;
  more = take v.further v.more;
}

-- the variable of a declaration
abbrev pub variable_at : List (Option Pin) → ℕ → List Held → (n : ℕ) → Decl → Place → ℕ → Variable
variable_at pins w held n d q slot = record {
  label = d.label;
  place = q;
  slot = slot;
  resident = is_pinned pins slot;
  further = further_blocks pins w q slot;
  more = four_slots pins q;
  held = register_of_scalar held n;
}

-- what the first declaration of a name says
abbrev pub variable_of : List (Option Pin) → ℕ → List Held → (n : ℕ) → List Decl → List Place → List ℕ → List ℕ
    → Option Variable
variable_of pins w held n [] places slots x = None
variable_of pins w held n (d ∷ ds) [] slots x = None
variable_of pins w held n (d ∷ ds) (q ∷ places) [] x = None
variable_of pins w held n (d ∷ ds) (q ∷ places) (slot ∷ slots) x =
    if bytes_eq x d.name then Some (variable_at pins w held n d q slot)
    else variable_of pins w held (n + 1) ds places slots x

-- the claim for a slot that serves one bank, where a variable uses it
abbrev pub claim_in : List ℕ → (slot bank : ℕ) → ℕ
claim_in slots slot bank = if list_any (λ s. s == slot) slots then bank else any_bank

-- the claims for the eight slots, by the slots of the variables
abbrev pub claims_in : List (Option Pin) → List ℕ → List ℕ
claims_in pins slots =
    claim_by (slice_index_or pins 0 None) any_bank
    ∷ claim_by (slice_index_or pins 1 None) any_bank
    ∷ claim_by (slice_index_or pins 2 None) (claim_in slots 2 0)
    ∷ claim_by (slice_index_or pins 3 None) (claim_in slots 3 0)
    ∷ claim_by (slice_index_or pins 4 None) (claim_in slots 4 1)
    ∷ claim_by (slice_index_or pins 5 None) (claim_in slots 5 1)
    ∷ any_bank
    ∷ claim_by (slice_index_or pins 7 None) any_bank
    ∷ []
