-- The sample is well typed, within the limits, fits, and has the places that it states.
use Rattle.std.proofs.Common.{◌≡◌, ℕ, zero, suc, ◌<◌, ◌≤◌, refl, arith}
use Rattle.src_tree.specs.Prelude.{IsWithinLimits, IsTyped}
use Rattle.gr_word.specs.declared.variables.Label.TheVariants.{Secret}
use Rattle.lt_isa.specs.Prelude.{most_blocks}
use Rattle.bank_alloc.specs.Prelude.{Fits, places_behind, places_of, bank_count, blocks_needed, blocks_of_banks, sample, sample_places, sample_blocks}

-- the sample is well typed
pub sample_typed : IsTyped sample
sample_typed = record {
  once = (refl, (refl, (refl, (refl, (refl, (refl, tt))))));
  body = (
    ((Secret, refl), (((Secret, refl), (tt, tt)), tt)),
    (((Secret, refl), (((Secret, refl), ((Secret, refl), tt)), tt)), tt),
  );
}

-- the sample keeps the limits
pub sample_within : IsWithinLimits sample
sample_within = record {
  variables = omega arith;
  lengths =
      (tt, (tt, ((omega arith, omega arith), (tt, ((omega arith, omega arith), ((omega arith, omega arith), tt))))));
  words = omega arith;
  heights = (omega arith, (omega arith, tt));
  weight = omega arith;
}

-- the sample's variables have the places of its list
pub sample_placed : places_of sample 3 ≡ sample_places
unfolding places_behind
sample_placed = refl

-- the sample's banks have the blocks that its list says
pub sample_banks : blocks_of_banks sample 3 ≡ sample_blocks
unfolding places_behind blocks_of_banks
sample_banks = refl

-- there is room for the sample
pub sample_fits : Fits sample 3
unfolding places_behind
sample_fits = record {
  scalars = record { public = omega arith; secret = omega arith };
  banks = by;
}
  where
    by : (b : ℕ) → b < bank_count (places_of sample 3) → blocks_needed sample 3 b ≤ most_blocks b
    by zero within = omega arith
    by (suc zero) within = omega arith
    by (suc (suc zero)) within = omega arith
    by (suc (suc (suc b))) within = absurd (omega (arith, within))
