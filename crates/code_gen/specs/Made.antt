-- For the proofs and for private clauses only: the object that a program is compiled to.
use Rattle.std.specs.Prelude.{◌≡◌, ℕ, ◌+◌, Bool, List, [], ◌∷◌}
use Rattle.lt_isa.specs.declared.profiles.Profile.{Profile}
use Rattle.lt_isa.specs.declared.profiles.Latencies.{Latencies}
use Rattle.lt_isa.specs.declared.profiles.BankSpec.{BankSpec}
use Rattle.lt_isa.specs.Object.{Parts}
use Rattle.lt_isa.specs.Ranges.{IsInRange}
use Rattle.src_tree.specs.Trees.{Source}
use Rattle.bank_alloc.specs.Layout.{IsLaidOut}
use Rattle.scratch_alloc.specs.Plans.{Plan}
use Rattle.block_cache_gen.specs.Homes.{Held}
use Rattle.block_cache_gen.specs.Settings.{setting_for}
use Rattle.compiled_objects.specs.Compiles.{latency_for}
use Rattle.code_gen.specs.Emitted.{padding_of}
use Rattle.code_gen.specs.Programs.{program_code, program_notes}

-- banks from one on, by the number of blocks of each
abbrev pub banks_from : Latencies → ℕ → List ℕ → List BankSpec
banks_from l bank [] = []
banks_from l bank (n ∷ ns) = record { blocks = n; latency = latency_for l bank } ∷ banks_from l (bank + 1) ns

-- the object has a program's variables at the places of a plan, the program's code and notes with or without steps and
-- with what registers hold, and this profile and these latencies
pub record IsMadeOf (p : Source) (plan : Plan) (given : Profile) (reduces : Bool) (held : List Held) (l : Latencies)
    (o : Parts) : Type 0 where
  pub in_range : IsInRange o
  pub profile : o.profile ≡ given
  pub layout : IsLaidOut p given.block_log plan.places plan.blocks o
  pub banks : o.banks ≡ banks_from l 0 plan.blocks
  pub code : o.code ≡ program_code (setting_for p plan given reduces held) padding_of p.body
  pub notes : o.notes ≡ program_notes (setting_for p plan given reduces held) padding_of p.body
