-- Properties of a compiled program's object besides its acceptance, its meaning and its layout: its cycles, how long
-- its code is, and how many stores of a word it has; and why a program isn't compiled. (This project's profile.)
use Rattle.std.specs.Prelude.{◌≡◌, ℕ, ◌+◌, ◌<◌, Bool, true, false, List, [], if◌then◌else◌, length, count_by}
use Rattle.gr_base.specs.Lists.{Within}
use Rattle.gr_word.specs.declared.variables.Label.TheVariants.{Public}
use Rattle.lt_isa.specs.declared.profiles.Profile.{Profile}
use Rattle.lt_isa.specs.declared.profiles.Latencies.{Latencies}
use Rattle.lt_isa.specs.Limits.{most_latency}
use Rattle.lt_isa.specs.Object.{Parts, is_ram, is_eram, latency_of}
use Rattle.src_tree.specs.Trees.{Source}
use Rattle.bank_alloc.specs.Fits.{Refuses}
use Rattle.scratch_alloc.specs.Plans.{Plan, standard_plan}
use Rattle.source_folding.specs.Folded.{folded_source}
use Rattle.resident_alloc.specs.ResidentFits.{ResidentsRefuse}
use Rattle.block_cache_gen.specs.Homes.{Held, Setting, ranged}
use Rattle.block_cache_gen.specs.Settings.{setting_for}
use Rattle.branch_padding.specs.Stores.{added_up, stores_of_each}
use Rattle.compiled_objects.specs.FastLayout.{fast_plan}
use Rattle.compiled_objects.specs.HeldNumbers.{held_for}
use Rattle.compiled_objects.specs.declared.errors.CompileError.{CompileError}
use Rattle.compiled_objects.specs.declared.errors.CompileError.TheVariants.{TooManyScalars, BankFull, Memory}
use Rattle.held_registers.specs.declared.registers.Held.TheVariants.{SecretZero, Number, Scalar}
use Rattle.scalar_ranges.specs.Known.{nothing_known}
use Rattle.bank_alloc.specs.declared.places.PlaceError.{PlaceError}
use Rattle.bank_alloc.specs.declared.places.PlaceError.TheVariants as place

-- latencies in their ranges
pub record LatenciesFit (l : Latencies) : Type 0 where
  pub ram : Within 1 most_latency l.ram
  pub eram : Within 1 most_latency l.eram
  pub oram : Within 1 most_latency l.oram

-- the latency of bank b
abbrev pub latency_for : Latencies → ℕ → ℕ
latency_for l b = if is_ram b then l.ram else (if is_eram b then l.eram else l.oram)

-- the object has this profile, and its banks have these latencies
pub record IsFor (given : Profile) (l : Latencies) (o : Parts) : Type 0 where
  pub profile : o.profile ≡ given
  pub latencies : (b : ℕ) → b < length o.banks → latency_of o b ≡ latency_for l b

-- how many scalars registers hold for the whole run: as many words are stored at the end
abbrev pub is_some_scalar : Held → Bool
is_some_scalar SecretZero = false
is_some_scalar (Number z) = false
is_some_scalar (Scalar n) = true

abbrev pub scalars_among : List Held → ℕ
scalars_among held = count_by is_some_scalar held

-- At the beginning nothing is known of any scalar. Ranges serve the steps that replace operations by numbers: if there
-- are none, no list of ranges is kept.
abbrev pub at_start : Setting → Setting
at_start f = ranged f (if f.reduces then nothing_known (length f.decls) else [])

-- The stores of a word that the code of a program has, by a plan of its memory, with or without steps in the place of
-- operations by numbers, and with what registers hold: those of its statements, and one for each scalar that a register
-- holds. With such steps, each read that is in place of a store is counted too.
abbrev pub stores_by : Source → Plan → Profile → Bool → List Held → ℕ
stores_by p plan profile reduces held =
    added_up (stores_of_each (at_start (setting_for p plan profile reduces held)) Public p.body) + scalars_among held

-- the same without --fast
abbrev pub stores_in : Source → Profile → ℕ
stores_in p profile = stores_by p (standard_plan p profile.block_log) profile false []

-- and with it, where expressions are made cheaper and registers hold the first scalars and numbers
abbrev pub stores_with_residents : Source → Profile → ℕ
stores_with_residents p profile =
    stores_by (folded_source p) (fast_plan p profile.block_log) profile true
    (held_for (folded_source p) (fast_plan p profile.block_log).places)

-- A program is refused where its variables lack room, as the first of them does. Running out of memory says nothing
-- about the program.
abbrev pub ExplainsRoom : CompileError → Source → ℕ → Type 0
ExplainsRoom (TooManyScalars label) p w = Refuses p w (place.TooManyScalars label)
ExplainsRoom (BankFull bank) p w = Refuses p w (place.BankFull bank)
ExplainsRoom Memory p w = Unit {0}

-- so it is with --fast
abbrev pub ExplainsResidents : CompileError → Source → ℕ → Type 0
ExplainsResidents (TooManyScalars label) p w = ResidentsRefuse p w (place.TooManyScalars label)
ExplainsResidents (BankFull bank) p w = ResidentsRefuse p w (place.BankFull bank)
ExplainsResidents Memory p w = Unit {0}

-- the error of a lack of room
abbrev pub error_of : PlaceError → CompileError
error_of (place.TooManyScalars label) = TooManyScalars label
error_of (place.BankFull bank) = BankFull bank
error_of place.Memory = Memory
