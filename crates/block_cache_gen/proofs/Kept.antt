-- What short code keeps that sets registers from some number on: the registers below it and those that no
-- expression uses, the slots and the banks.
use Rattle.std.proofs.Common.{◌≡◌, ℕ, ◌<◌, ◌≤◌, ℤ, ◌∙◌, arith}
use Rattle.lt_isa.specs.Prelude.{State, register}
use Rattle.stretches.specs.Prelude.{Sets}
use Rattle.block_cache_gen.specs.Prelude.{Setting, first_kept}

pub record Keeps (f : Setting) (n : ℕ) (s t : State) : Type 0 where
  pub below : (r : ℕ) → r < n → register t r ≡ register s r
  pub above : (r : ℕ) → first_kept f ≤ r → register t r ≡ register s r
  pub slots : t.slots ≡ s.slots
  pub banks : t.banks ≡ s.banks

-- where one register was set
pub keeps-set : (f : Setting) (n : ℕ) {s t : State} {r : ℕ} {word : ℤ} → Sets s r word t → n ≤ r → r < first_kept f
    → Keeps f n s t
keeps-set f n {r = r} sets from low = record {
  below = λ q under. sets.others q (λ same. absurd (omega (arith, from, under, same)));
  above = λ q over. sets.others q (λ same. absurd (omega (arith, low, over, same)));
  slots = sets.slots;
  banks = sets.banks;
}

-- one after another
pub keeps-on : {f : Setting} {n : ℕ} {s t u : State} → Keeps f n s t → Keeps f n t u → Keeps f n s u
keeps-on first second = record {
  below = λ r under. second.below r under ∙ first.below r under;
  above = λ r over. second.above r over ∙ first.above r over;
  slots = second.slots ∙ first.slots;
  banks = second.banks ∙ first.banks;
}

-- fewer registers are kept too
pub keeps-lower : {f : Setting} (m n : ℕ) {s t : State} → m ≤ n → Keeps f n s t → Keeps f m s t
keeps-lower m n le keeps = record {
  below = λ r under. keeps.below r (omega (arith, le, under));
  above = keeps.above;
  slots = keeps.slots;
  banks = keeps.banks;
}
