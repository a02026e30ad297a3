-- What the notes of a setting claim: a mask without a register; that what is known fits them; and what they carry.
use Rattle.std.proofs.Common.{◌≡◌, ◌≢◌, ℕ, zero, suc, ◌<◌, ◌≤◌, Bool, true, false, get_or, inl, inr, Option, Some, None, refl, sym, ap, ◌∙◌, ⊎_elim, arith}
use Rattle.std.specs.Prelude.{if◌then◌else◌}
use Rattle.std.proofs.lemmas.Bool.{cases_eq, cases_lt, true≢false, false≢true}
use Rattle.std.proofs.lemmas.List.{get_or_past}
use Rattle.gr_base.specs.Prelude.{Within}
use Rattle.gr_word.specs.declared.variables.Label.TheVariants.{Public}
use Rattle.lt_isa.specs.Prelude.{Parts}
use Rattle.src_tree.specs.Prelude.{DeclaredOnce}
use Rattle.trace_patterns.specs.Prelude.{Known, is_secret, bank_known, is_marked, claimed_bank, marks, claims, FitsClaim, note_known}
use Rattle.trace_patterns.proofs.Masks.{length-marks, get_or-marks, length-claims, get_or-claims}
use Rattle.block_cache_gen.specs.Prelude.{Pin, Setting, HasHomes, home_of, pin_at, base_mask, unmarked, is_used, claimed_where_used, claim_by, slot_claims, note_of, Carries, first_kept}
use Rattle.block_cache_gen.proofs.BaseMarks.{base-held, base-public, unmarked-other}
use Rattle.block_cache_gen.proofs.HeldLabels.{label-high, label-low}
use Rattle.block_cache_gen.proofs.KeptBelow.{LeavesPublic}
use Rattle.block_cache_gen.proofs.HomeFacts.{bank_served, served-one}
use Rattle.block_cache_gen.proofs.NamesOfHomes.{array-used, array-served, used-bank}

-- the mask of notes between statements marks each register of expressions
pub leaves-base : (f : Setting) (to : ℕ) (k : Known) → LeavesPublic f (base_mask f) to k
leaves-base f to k = record {
  lower = λ r low unmarks.
      let high : first_kept f ≤ r = label-high f r Public (base-public f r (omega arith) unmarks) in absurd (omega arith);
  held = λ r high low. refl;
}

-- a mask that is true of what is known stays so where a register that is left out is public
pub leaves-without : (f : Setting) (mask to r more : ℕ) (k : Known) → LeavesPublic f mask to k → to ≤ more → r < more
    → r < first_kept f → is_secret k r ≡ false → LeavesPublic f (unmarked mask r) more k
leaves-without f mask to r more k leaves le lt inside public = record {
  lower = λ s within unmarks.
      ⊎_elim
      (λ (e : s ≡ r). (omega arith, ap (is_secret k) e ∙ public))
      (λ (ne : s ≡ r → ⊥).
      let h = leaves.lower s within (sym (unmarked-other mask r s (omega arith) (omega arith) ne) ∙ unmarks) in
      let low = h.0 in
      (omega arith, h.1))
      (cases_eq s r);
  held = λ s high low.
      unmarked-other mask r s (omega arith) low (λ e. absurd (omega (arith, e))) ∙ leaves.held s high low;
}

-- it is true of what is known later too
pub leaves-later : (f : Setting) (mask to : ℕ) (k l : Known) → LeavesPublic f mask to k
    → ((r : ℕ) → r < to → is_marked mask r ≡ false → is_secret l r ≡ false) → LeavesPublic f mask to l
leaves-later f mask to k l leaves kept = record {
  lower = λ r inside unmarks. let h = leaves.lower r inside unmarks in (h.0, kept r h.0 unmarks);
  held = leaves.held;
}

-- what leaves the registers below one public does so below a higher one
pub leaves-higher : (f : Setting) (mask to more : ℕ) (k : Known) → to ≤ more → LeavesPublic f mask to k
    → LeavesPublic f mask more k
leaves-higher f mask to more k le leaves = record {
  lower = λ r inside unmarks. let h = leaves.lower r inside unmarks in let low = h.0 in (omega arith, h.1);
  held = leaves.held;
}

-- what a note claims about a register and about a slot
pub claimed-register : (f : Setting) (mask place r : ℕ) → r < 32
    → is_secret (note_known (note_of f mask place)) r ≡ is_marked mask r
claimed-register f mask place r inside = get_or-marks 32 mask r true inside

claimed_slot : (f : Setting) (mask place slot : ℕ) → slot < 8
    → bank_known (note_known (note_of f mask place)) slot ≡ claimed_bank (get_or (slot_claims f) slot 255)
claimed_slot f mask place slot inside = get_or-claims 8 (slot_claims f) slot None inside

-- a slot from 2 to 5 is claimed where it is used
used_claim : (used : Bool) (bank claim : ℕ) → claimed_bank (if used then bank else 255) ≡ Some claim → bank < 2
    → (used ≡ true) × (claim ≡ bank)
used_claim false bank claim e low = absurd (let g : ◌≡◌ {A = Option ℕ} None (Some claim) = e in cc)
used_claim true zero claim e low = let g : ◌≡◌ {A = Option ℕ} (Some 0) (Some claim) = e in (refl, cc)
used_claim true (suc zero) claim e low = let g : ◌≡◌ {A = Option ℕ} (Some 1) (Some claim) = e in (refl, cc)
used_claim true (suc (suc n)) claim e low = absurd (omega arith)

module _ (o : Parts) (f : Setting) (homes : HasHomes o f) (once : DeclaredOnce f.decls) where
  used_fits : (slot bank claim : ℕ) (k : Known) → Carries f k → pin_at f slot ≡ None → bank_served slot bank
      → Within 2 5 slot → bank < 2
      → claimed_bank (claimed_where_used f slot bank) ≡ Some claim → bank_known k slot ≡ Some claim
  used_fits slot bank claim k carries free served range low e =
      let c = used_claim (is_used f slot) bank claim e low in
      let h = used-bank o f homes once slot k c.0 range free carries in
      h.1 ∙ ap Some (served-one slot h.0 bank h.2 served ∙ sym c.1)

  low_fits : (slot claim : ℕ) (k : Known) → Carries f k → pin_at f slot ≡ None → Within 2 3 slot
      → claimed_bank (claimed_where_used f slot 0) ≡ Some claim → bank_known k slot ≡ Some claim
  low_fits slot claim k carries free range e =
      used_fits slot 0 claim k carries free (inl (range, refl)) (omega (arith, range.0), omega (arith, range.1))
      (omega arith) e

  high_fits : (slot claim : ℕ) (k : Known) → Carries f k → pin_at f slot ≡ None → Within 4 5 slot
      → claimed_bank (claimed_where_used f slot 1) ≡ Some claim → bank_known k slot ≡ Some claim
  high_fits slot claim k carries free range e =
      used_fits slot 1 claim k carries free (inr (range, refl)) (omega (arith, range.0), omega (arith, range.1))
      (omega arith) e

  no_claim : {A : Type 0} (claim : ℕ) → claimed_bank 255 ≡ Some claim → A
  no_claim claim e = absurd (let g : ◌≡◌ {A = Option ℕ} None (Some claim) = e in cc)

  -- a pinned slot is claimed with the bank of its block
  claimed_pin : (slot : ℕ) (p : Pin) → pin_at f slot ≡ Some p → claimed_bank p.bank ≡ Some p.bank
  claimed_pin slot p pinned = by p.bank (homes.pins slot p pinned).bank
    where
      by : (bank : ℕ) → bank < 2 → claimed_bank bank ≡ Some bank
      by zero low = refl
      by (suc zero) low = refl
      by (suc (suc n)) low = absurd (omega arith)

  pin_fits : (slot other claim : ℕ) (k : Known) → Carries f k → slot < 8 → slot ≢ 6 → (pin : Option Pin)
      → pin_at f slot ≡ pin
      → (pin_at f slot ≡ None → claimed_bank other ≡ Some claim → bank_known k slot ≡ Some claim)
      → claimed_bank (claim_by pin other) ≡ Some claim → bank_known k slot ≡ Some claim
  pin_fits slot other claim k carries few apart None is turn e = turn is e
  pin_fits slot other claim k carries few apart (Some p) is turn e =
      carries.pinned slot p is few apart ∙ sym (claimed_pin slot p is) ∙ e

  slot_fits : (slot claim : ℕ) (k : Known) → Carries f k → slot < 8
      → claimed_bank (get_or (slot_claims f) slot 255) ≡ Some claim → bank_known k slot ≡ Some claim
  slot_fits zero claim k carries lt e =
      pin_fits 0 255 claim k carries lt (λ e. omega arith) (pin_at f 0) refl (λ free. no_claim claim) e
  slot_fits (suc zero) claim k carries lt e =
      pin_fits 1 255 claim k carries lt (λ e. omega arith) (pin_at f 1) refl (λ free. no_claim claim) e
  slot_fits (suc (suc zero)) claim k carries lt e =
      pin_fits 2 (claimed_where_used f 2 0) claim k carries lt (λ e. omega arith) (pin_at f 2) refl
      (λ free. low_fits 2 claim k carries free (omega arith, omega arith)) e
  slot_fits (suc (suc (suc zero))) claim k carries lt e =
      pin_fits 3 (claimed_where_used f 3 0) claim k carries lt (λ e. omega arith) (pin_at f 3) refl
      (λ free. low_fits 3 claim k carries free (omega arith, omega arith)) e
  slot_fits (suc (suc (suc (suc zero)))) claim k carries lt e =
      pin_fits 4 (claimed_where_used f 4 1) claim k carries lt (λ e. omega arith) (pin_at f 4) refl
      (λ free. high_fits 4 claim k carries free (omega arith, omega arith)) e
  slot_fits (suc (suc (suc (suc (suc zero))))) claim k carries lt e =
      pin_fits 5 (claimed_where_used f 5 1) claim k carries lt (λ e. omega arith) (pin_at f 5) refl
      (λ free. high_fits 5 claim k carries free (omega arith, omega arith)) e
  slot_fits (suc (suc (suc (suc (suc (suc zero)))))) claim k carries lt e = no_claim claim e
  slot_fits (suc (suc (suc (suc (suc (suc (suc zero))))))) claim k carries lt e =
      pin_fits 7 255 claim k carries lt (λ e. omega arith) (pin_at f 7) refl (λ free. no_claim claim) e
  slot_fits (suc (suc (suc (suc (suc (suc (suc (suc n)))))))) claim k carries lt e = absurd (omega arith)

  -- what is known where a setting is carried fits a note, where the registers that it doesn't mark are public
  pub note-fits : (mask place to : ℕ) (k : Known) → Carries f k → LeavesPublic f mask to k
      → FitsClaim k (note_known (note_of f mask place))
  note-fits mask place to k carries leaves = record {
    registers = λ r secret.
        ⊎_elim
        (λ (lt : r < 32). claimed-register f mask place r lt ∙ marked r lt secret (is_marked mask r) refl)
        (λ (le : 32 ≤ r). get_or_past (marks 32 mask) r true (omega (arith, length-marks 32 mask)))
        (cases_lt r 32);
    slots = λ slot claim known.
        ⊎_elim
        (λ (lt : slot < 8). slot_fits slot claim k carries lt (sym (claimed_slot f mask place slot lt) ∙ known))
        (λ (le : 8 ≤ slot). absurd (let g : ◌≡◌ {A = Option ℕ} None (Some claim) = sym
        (get_or_past (claims 8 (slot_claims f)) slot None (omega (arith, length-claims 8 (slot_claims f))))
        ∙ known in cc))
        (cases_lt slot 8);
  }
    where
      marked : (r : ℕ) → r < 32 → is_secret k r ≡ true → (b : Bool) → is_marked mask r ≡ b → b ≡ true
      marked r lt secret true is = refl
      marked r lt secret false is =
          absurd
          (true≢false
          (sym secret
          ∙ ⊎_elim
          (λ (low : r < first_kept f). let h = leaves.lower r low is in h.1)
          (λ (high : first_kept f ≤ r). carries.held r Public (base-public f r lt (sym (leaves.held r high lt) ∙ is)))
          (cases_lt r (first_kept f))))

  claimed_used : (used : Bool) (bank : ℕ) → bank < 2 → used ≡ true
      → claimed_bank (if used then bank else 255) ≡ Some bank
  claimed_used true zero low e = refl
  claimed_used true (suc zero) low e = refl
  claimed_used true (suc (suc n)) low e = absurd (omega arith)
  claimed_used false bank low e = absurd (false≢true e)

  -- what is claimed of a slot that isn't pinned
  free_claim : (slot bank : ℕ) → pin_at f slot ≡ None → bank < 2 → is_used f slot ≡ true
      → claimed_bank (claim_by (pin_at f slot) (claimed_where_used f slot bank)) ≡ Some bank
  free_claim slot bank free low used =
      ap (λ (p : Option Pin). claimed_bank (claim_by p (claimed_where_used f slot bank))) free
      ∙ claimed_used (is_used f slot) bank low used

  low_claim : (slot : ℕ) → Within 2 3 slot → pin_at f slot ≡ None → is_used f slot ≡ true
      → claimed_bank (get_or (slot_claims f) slot 255) ≡ Some 0
  low_claim zero range free used = let low = range.0 in absurd (omega arith)
  low_claim (suc zero) range free used = let low = range.0 in absurd (omega arith)
  low_claim (suc (suc zero)) range free used = free_claim 2 0 free (omega arith) used
  low_claim (suc (suc (suc zero))) range free used = free_claim 3 0 free (omega arith) used
  low_claim (suc (suc (suc (suc n)))) range free used = let high = range.1 in absurd (omega arith)

  high_claim : (slot : ℕ) → Within 4 5 slot → pin_at f slot ≡ None → is_used f slot ≡ true
      → claimed_bank (get_or (slot_claims f) slot 255) ≡ Some 1
  high_claim zero range free used = let low = range.0 in absurd (omega arith)
  high_claim (suc zero) range free used = let low = range.0 in absurd (omega arith)
  high_claim (suc (suc zero)) range free used = let low = range.0 in absurd (omega arith)
  high_claim (suc (suc (suc zero))) range free used = let low = range.0 in absurd (omega arith)
  high_claim (suc (suc (suc (suc zero)))) range free used = free_claim 4 1 free (omega arith) used
  high_claim (suc (suc (suc (suc (suc zero))))) range free used = free_claim 5 1 free (omega arith) used
  high_claim (suc (suc (suc (suc (suc (suc n)))))) range free used = let high = range.1 in absurd (omega arith)

  -- a slot that is used is claimed with the bank that it serves
  served_claimed : (slot bank mask place : ℕ) → pin_at f slot ≡ None → is_used f slot ≡ true → bank_served slot bank
      → bank_known (note_known (note_of f mask place)) slot ≡ Some bank
  served_claimed slot bank mask place free used (inl h) =
      let high = h.0.1 in
      claimed_slot f mask place slot (omega arith) ∙ low_claim slot h.0 free used ∙ ap Some (sym h.1)
  served_claimed slot bank mask place free used (inr h) =
      let high = h.0.1 in
      claimed_slot f mask place slot (omega arith) ∙ high_claim slot h.0 free used ∙ ap Some (sym h.1)

  -- what is claimed of a pinned slot
  pinned_claim : (slot : ℕ) (p : Pin) → pin_at f slot ≡ Some p → slot < 8 → slot ≢ 6
      → claimed_bank (get_or (slot_claims f) slot 255) ≡ claimed_bank p.bank
  pinned_claim zero p pinned few apart = ap (λ (q : Option Pin). claimed_bank (claim_by q 255)) pinned
  pinned_claim (suc zero) p pinned few apart = ap (λ (q : Option Pin). claimed_bank (claim_by q 255)) pinned
  pinned_claim (suc (suc zero)) p pinned few apart =
      ap (λ (q : Option Pin). claimed_bank (claim_by q (claimed_where_used f 2 0))) pinned
  pinned_claim (suc (suc (suc zero))) p pinned few apart =
      ap (λ (q : Option Pin). claimed_bank (claim_by q (claimed_where_used f 3 0))) pinned
  pinned_claim (suc (suc (suc (suc zero)))) p pinned few apart =
      ap (λ (q : Option Pin). claimed_bank (claim_by q (claimed_where_used f 4 1))) pinned
  pinned_claim (suc (suc (suc (suc (suc zero))))) p pinned few apart =
      ap (λ (q : Option Pin). claimed_bank (claim_by q (claimed_where_used f 5 1))) pinned
  pinned_claim (suc (suc (suc (suc (suc (suc zero)))))) p pinned few apart = absurd (apart refl)
  pinned_claim (suc (suc (suc (suc (suc (suc (suc zero))))))) p pinned few apart =
      ap (λ (q : Option Pin). claimed_bank (claim_by q 255)) pinned
  pinned_claim (suc (suc (suc (suc (suc (suc (suc (suc n)))))))) p pinned few apart = absurd (omega arith)

  -- and a note carries the setting, if its mask says of the registers that no expression uses what notes between
  -- statements say
  pub note-carries : (mask place : ℕ)
      → ((r : ℕ) → first_kept f ≤ r → r < 32 → is_marked mask r ≡ is_marked (base_mask f) r)
      → Carries f (note_known (note_of f mask place))
  note-carries mask place based = record {
    registers = length-marks 32 mask;
    slots = length-claims 8 (slot_claims f);
    pinned = λ slot p pinned few apart.
        claimed_slot f mask place slot few ∙ pinned_claim slot p pinned few apart ∙ claimed_pin slot p pinned;
    arrays = λ x label declared turn range.
        served_claimed (home_of f x).slot (home_of f x).bank mask place (homes.arrays x label declared turn).unpinned
        (array-used o f homes x label declared) (array-served o f homes x label declared turn range);
    held = λ r l is.
        let low = label-low f homes.held r l is in
        claimed-register f mask place r low ∙ based r (label-high f r l is) low ∙ base-held f r l low is;
  }
