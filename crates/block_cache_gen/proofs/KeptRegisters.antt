-- What straight code leaves of what is known: registers below some, those that hold something for the whole run, and
-- all slots.
use Rattle.std.proofs.Common.{◌≡◌, ◌≢◌, ℕ, ◌<◌, ◌≤◌, Bool, true, false, ◌||◌, length, Some, refl, sym, ap, ◌∙◌, subst, ⊎_elim, arith, length-set}
use Rattle.std.proofs.lemmas.Bool.{cases_eq}
use Rattle.trace_patterns.specs.Prelude.{Known, is_secret, bank_known, is_marked, set_secret, set_bank}
use Rattle.stretches.proofs.Passed.{secret-same, secret-other, bank-same, bank-other}
use Rattle.gr_word.specs.declared.variables.Label.{Label}
use Rattle.src_tree.specs.Prelude.{secret_label}
use Rattle.block_cache_gen.specs.Prelude.{Setting, held_label, Carries, first_kept}
use Rattle.block_cache_gen.proofs.KeptBelow.{KeptBelow}
use Rattle.block_cache_gen.proofs.HeldLabels.{label-high, one-label}

-- a label that is joined with public stays
pub or_false : (b : Bool) → (b || false) ≡ b
or_false true = refl
or_false false = refl

-- registers below one stay as they were, and so do those that no expression uses and all slots
pub record SameBelow (f : Setting) (to : ℕ) (k l : Known) : Type 0 where
  pub sized : length l.secret ≡ length k.secret
  pub count : length l.banks ≡ length k.banks
  pub registers : (r : ℕ) → r < to → is_secret l r ≡ is_secret k r
  pub above : (r : ℕ) → first_kept f ≤ r → is_secret l r ≡ is_secret k r
  pub slots : (slot : ℕ) → slot ≢ 6 → bank_known l slot ≡ bank_known k slot

-- what is as before is as before
pub same-itself : (f : Setting) (to : ℕ) (k : Known) → SameBelow f to k k
same-itself f to k =
    record { sized = refl; count = refl; registers = λ r lt. refl; above = λ r le. refl; slots = λ slot lt. refl }

-- twice as before
pub same-then : (f : Setting) (to : ℕ) (k l m : Known) → SameBelow f to k l → SameBelow f to l m → SameBelow f to k m
same-then f to k l m first second = record {
  sized = second.sized ∙ first.sized;
  count = second.count ∙ first.count;
  registers = λ r lt. second.registers r lt ∙ first.registers r lt;
  above = λ r le. second.above r le ∙ first.above r le;
  slots = λ slot lt. second.slots slot lt ∙ first.slots slot lt;
}

-- fewer registers stay too
pub same-lower : (f : Setting) (low to : ℕ) (k l : Known) → low ≤ to → SameBelow f to k l → SameBelow f low k l
same-lower f low to k l le h = record {
  sized = h.sized;
  count = h.count;
  registers = λ r lt. h.registers r (omega arith);
  above = h.above;
  slots = h.slots;
}

-- a higher register of expressions was set
pub same-set : (f : Setting) (to : ℕ) (k l : Known) (r : ℕ) (label : Bool) → to ≤ r → r < first_kept f
    → SameBelow f to k l
    → SameBelow f to k (set_secret l r label)
same-set f to k l r label le low h = record {
  sized = length-set l.secret r label ∙ h.sized;
  count = h.count;
  registers = λ s lt. secret-other l r s label (λ e. absurd (omega arith)) ∙ h.registers s lt;
  above = λ s over. secret-other l r s label (λ e. absurd (omega (arith, e))) ∙ h.above s over;
  slots = h.slots;
}

-- a slot that is bound to the bank to which it was, or none of those that a setting relies on
pub same-bound : (f : Setting) (to : ℕ) (k l : Known) (slot bank : ℕ) → SameBelow f to k l → slot < length l.banks
    → (slot ≢ 6 → bank_known l slot ≡ Some bank) → SameBelow f to k (set_bank l slot bank)
same-bound f to k l slot bank h inside same = record {
  sized = h.sized;
  count = length-set l.banks slot (Some bank) ∙ h.count;
  registers = h.registers;
  above = h.above;
  slots = λ s lt.
      ⊎_elim
      (λ (e : s ≡ slot).
      let low : slot ≢ 6 = λ six. lt (e ∙ six) in
      let here : bank_known (set_bank l slot bank) slot ≡ bank_known l slot = bank-same l slot bank inside
      ∙ sym (same low) in
      subst (λ (x : ℕ). bank_known (set_bank l slot bank) x ≡ bank_known l x) (sym e) here ∙ h.slots s lt)
      (λ (ne : s ≡ slot → ⊥). bank-other l slot bank s ne ∙ h.slots s lt)
      (cases_eq s slot);
}

-- a setting is carried on
pub carries-same : (f : Setting) (to : ℕ) (k l : Known) → Carries f k → SameBelow f to k l → Carries f l
carries-same f to k l carries h = record {
  registers = h.sized ∙ carries.registers;
  slots = h.count ∙ carries.slots;
  pinned = λ slot p pinned few apart. h.slots slot apart ∙ carries.pinned slot p pinned few apart;
  arrays = λ x label declared turn range.
      let high = range.1 in
      h.slots _ (λ six. absurd (omega (arith, six))) ∙ carries.arrays x label declared turn range;
  held = λ r label is. h.above r (label-high f r label is) ∙ carries.held r label is;
}

-- so it is where a register that holds a scalar gets a value of the scalar's label
pub carries-copied : (f : Setting) (k : Known) (r : ℕ) (l : Label) (label : Bool) → Carries f k
    → held_label f r ≡ Some l → r < 32 → label ≡ secret_label l → Carries f (set_secret k r label)
carries-copied f k r l label carries is inside labelled = record {
  registers = length-set k.secret r label ∙ carries.registers;
  slots = carries.slots;
  pinned = carries.pinned;
  arrays = carries.arrays;
  held = λ q m holds.
      ⊎_elim
      (λ (e : q ≡ r).
      let same : l ≡ m = one-label (held_label f q) l m (ap (held_label f) e ∙ is) holds in
      let sized = carries.registers in
      ap (is_secret (set_secret k r label)) e ∙ secret-same k r label (omega arith) ∙ labelled ∙ ap secret_label same)
      (λ (ne : q ≡ r → ⊥). secret-other k r q label ne ∙ carries.held q m holds)
      (cases_eq q r);
}

-- the lower registers stayed, and so what an expression keeps
pub kept-same : (f : Setting) (mask to : ℕ) (k l m : Known) → KeptBelow f mask to k l → SameBelow f to l m
    → KeptBelow f mask to k m
kept-same f mask to k l m kept h = record {
  carries = carries-same f to l m kept.carries h;
  publics = λ r lt unmarks. h.registers r lt ∙ kept.publics r lt unmarks;
  secrets = λ r lt secret. h.registers r lt ∙ kept.secrets r lt secret;
}

-- what is known once keeps itself
pub kept-itself : (f : Setting) (mask to : ℕ) (k : Known) → Carries f k
    → ((r : ℕ) → r < to → is_marked mask r ≡ false → is_secret k r ≡ false) → KeptBelow f mask to k k
kept-itself f mask to k carries publics =
    record { carries = carries; publics = publics; secrets = λ r lt secret. secret }
