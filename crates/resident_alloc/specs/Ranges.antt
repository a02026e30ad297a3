-- For the proofs and for private clauses only: variables that are few and short enough for numbers of a machine, and
-- steps of the definitions.
use Rattle.std.specs.Prelude.{ℕ, ◌-◌, ◌≤◌, nat_le, Bool, ◌&&◌, if◌then◌else◌, List, [], length, map, count_by, nat_lt, All, Option, Some, None}
use Rattle.std.specs.List.{range_with_len}
use Rattle.gr_word.specs.declared.variables.Label.TheVariants.{Public, Secret}
use Rattle.src_tree.specs.Limits.{max_variables, max_length}
use Rattle.bank_alloc.specs.declared.classes.Class.{Class}
use Rattle.bank_alloc.specs.declared.classes.Class.TheVariants.{PublicScalar, SecretScalar}
use Rattle.bank_alloc.specs.declared.places.PlaceError.{PlaceError}
use Rattle.bank_alloc.specs.declared.places.PlaceError.TheVariants.{TooManyScalars}
use Rattle.scratch_alloc.specs.Plans.{Plan}
use Rattle.gr_base.specs.Lists.{Within}
use Rattle.resident_alloc.specs.declared.wants.Context.{Context}
use Rattle.resident_alloc.specs.declared.wants.Want.{Want}
use Rattle.resident_alloc.specs.Residents.{is_of, is_short}
use Rattle.resident_alloc.specs.ResidentPlan.{planned_behind, pins_of, resident_blocks, resident_banks}

-- variables as few and as short as those of a program
pub record AreShort (vs : List Want) : Type 0 where
  pub count : length vs ≤ max_variables
  pub lengths : All (λ v. v.words ≤ max_length) vs

-- blocks of at most 512 words, and variables that are few and short
pub record IsPlannable (context : Context) : Type 0 where
  pub size : Within 8 512 context.size
  pub all : AreShort context.all.now
  pub before : AreShort context.before.now

-- whether an array of a class takes its words from a room, and what is left of it
abbrev pub takes_room : Class → ℕ → Want → Bool
takes_room c room v = is_of c v && nat_le v.words room

abbrev pub room_behind : Class → ℕ → Want → ℕ
room_behind c room v = if takes_room c room v then room - v.words else room

-- whether an array of a class is too long for what is left of a room
abbrev pub is_left_out : Class → ℕ → Want → Bool
is_left_out c room v = is_of c v && nat_lt room v.words

-- whether an array is one of the first short ones, if this many of these are left
abbrev pub is_skipped : ℕ → ℕ → Want → Bool
is_skipped size left v = nat_lt 0 left && is_short size v

-- the lack of room among the scalars, if there is one
abbrev pub scalars_lack : ℕ → List Want → Option PlaceError
scalars_lack size all =
    if nat_lt size (count_by (is_of PublicScalar) all) then Some (TooManyScalars Public)
    else (if nat_lt size (count_by (is_of SecretScalar) all) then Some (TooManyScalars Secret) else None)

-- the plan for some variables, where a block has `size` words
abbrev pub plan_of : ℕ → List Want → Plan
plan_of size all =
    let planned = planned_behind size all [] all in
    record {
      places = map (λ v. v.place) planned;
      slots = map (λ v. v.slot) planned;
      blocks = map (resident_blocks size all) (range_with_len 0 (resident_banks size all));
      pins = pins_of planned;
    }
