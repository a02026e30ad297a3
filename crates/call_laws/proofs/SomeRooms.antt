-- The variables of each program have room on a machine, or one lacks it first.
use Rattle.std.proofs.Common.{◌≡◌, ℕ, zero, suc, ◌^◌, ◌<◌, ◌≤◌, Bool, true, false, ◌⊎◌, inl, inr, Some, Err, refl, subst, arith}
use Rattle.std.proofs.lemmas.Bool.{cases_lt}
use Rattle.gr_word.specs.declared.variables.Label.TheVariants.{Public, Secret}
use Rattle.lt_isa.specs.Prelude.{most_blocks}
use Rattle.src_tree.specs.Prelude.{Source}
use Rattle.bank_alloc.specs.Prelude.{ScalarsFit, scalars_of, bank_count, blocks_needed, places_of}
use Rattle.resident_alloc.specs.Prelude.{resident_banks, resident_blocks, wants_of}
use Rattle.compiled_objects.specs.declared.errors.CompileError.{CompileError}
use Rattle.compiled_objects.specs.declared.errors.CompileError.TheVariants.{BankFull, TooManyScalars}
use Rattle.call_replies.specs.declared.source_faults.SourceFault.{SourceFault}
use Rattle.call_steps.specs.declared.targets.Target.{Target}
use Rattle.call_steps.specs.Prelude.{HasRoom, IsCompiled, LacksRoom, room_fault}
use Rattle.call_replies.specs.declared.source_faults.SourceFault.TheVariants as fault

-- the banks below a number have room, or one is the first that lacks it
data Banks (most needed : ℕ → ℕ) (n : ℕ) : Type 0 where
  AllFit : ((b : ℕ) → b < n → needed b ≤ most b) → Banks most needed n
  OneFull : (bank : ℕ) → most bank < needed bank → ((b : ℕ) → b < bank → needed b ≤ most b) → Banks most needed n

one-more : (most needed : ℕ → ℕ) (n : ℕ) → ((b : ℕ) → b < n → needed b ≤ most b) → needed n ≤ most n → (b : ℕ)
    → b < suc n → needed b ≤ most b
one-more most needed n fit fits b low = by (cases_lt b n)
  where
    by : (b < n) ⊎ (n ≤ b) → needed b ≤ most b
    by (inl less) = fit b less
    by (inr past) = let same : n ≡ b = omega (arith, low, past) in subst (λ k. needed k ≤ most k) same fits

banks-some : (most needed : ℕ → ℕ) (n : ℕ) → Banks most needed n
banks-some most needed zero = AllFit (λ b low. absurd (omega (arith, low)))
banks-some most needed (suc n) = by (banks-some most needed n) (cases_lt (most n) (needed n))
  where
    by : Banks most needed n → (most n < needed n) ⊎ (needed n ≤ most n) → Banks most needed (suc n)
    by (OneFull bank full first) last = OneFull bank full first
    by (AllFit fit) (inl full) = OneFull n full fit
    by (AllFit fit) (inr fits) = AllFit (one-more most needed n fit fits)

-- what lacks room first, as it is printed
abbrev Lacks : Bool → Source → ℕ → SourceFault → Type 0
Lacks fast p w shown = (e : CompileError) × LacksRoom fast e p w × (room_fault e ≡ Some shown)

abbrev HasRoomOrNot : Bool → Source → ℕ → Type 0
HasRoomOrNot fast p w = HasRoom fast p w ⊎ ((shown : SourceFault) × Lacks fast p w shown)

module _ (p : Source) (w : ℕ) where
  plain-banks : ScalarsFit p w → Banks most_blocks (blocks_needed p w) (bank_count (places_of p w))
      → HasRoomOrNot false p w
  plain-banks scalars (AllFit fit) = inl (record { scalars = scalars; banks = fit })
  plain-banks scalars (OneFull bank full first) =
      inr (fault.BankFull bank, (BankFull bank, (scalars, record { full = full; first = first }), refl))

  resident-banks : ScalarsFit p w
      → Banks most_blocks (resident_blocks (2 ^ w) (wants_of p)) (resident_banks (2 ^ w) (wants_of p))
      → HasRoomOrNot true p w
  resident-banks scalars (AllFit fit) = inl (record { scalars = scalars; banks = fit })
  resident-banks scalars (OneFull bank full first) =
      inr (fault.BankFull bank, (BankFull bank, (scalars, record { full = full; first = first }), refl))

  some-banks : (fast : Bool) → ScalarsFit p w → HasRoomOrNot fast p w
  some-banks false scalars = plain-banks scalars (banks-some most_blocks (blocks_needed p w) (bank_count (places_of p w)))
  some-banks true scalars =
      resident-banks scalars
      (banks-some most_blocks (resident_blocks (2 ^ w) (wants_of p)) (resident_banks (2 ^ w) (wants_of p)))

  many-public : (fast : Bool) → 2 ^ w < scalars_of Public p → HasRoomOrNot fast p w
  many-public false many = inr (fault.Scalars Public, (TooManyScalars Public, many, refl))
  many-public true many = inr (fault.Scalars Public, (TooManyScalars Public, many, refl))

  many-secret : (fast : Bool) → scalars_of Public p ≤ 2 ^ w → 2 ^ w < scalars_of Secret p → HasRoomOrNot fast p w
  many-secret false few many = inr (fault.Scalars Secret, (TooManyScalars Secret, (few, many), refl))
  many-secret true few many = inr (fault.Scalars Secret, (TooManyScalars Secret, (few, many), refl))

  room-or-not : (fast : Bool) → HasRoomOrNot fast p w
  room-or-not fast = by (cases_lt (2 ^ w) (scalars_of Public p)) (cases_lt (2 ^ w) (scalars_of Secret p))
    where
      by : (2 ^ w < scalars_of Public p) ⊎ (scalars_of Public p ≤ 2 ^ w)
          → (2 ^ w < scalars_of Secret p) ⊎ (scalars_of Secret p ≤ 2 ^ w) → HasRoomOrNot fast p w
      by (inl many) other = many-public fast many
      by (inr few) (inl many) = many-secret fast few many
      by (inr few) (inr fits) = some-banks fast (record { public = few; secret = fits })

pub room-some : (p : Source) (target : Target)
    → HasRoom target.fast p target.profile.block_log ⊎ ((shown : SourceFault) × IsCompiled p target (Err shown))
room-some p target = room-or-not p target.profile.block_log target.fast
