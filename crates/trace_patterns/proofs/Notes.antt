-- The notes of an object: none is between two places, and when what is known fits a note's claim.
use Rattle.std.proofs.Common.{◌≡◌, ℕ, ◌<◌, ◌≤◌, ◌==◌, Bool, true, false, not, ◌||◌, ◌&&◌, nat_lt, List, [], ◌∷◌, length, Option, Some, None, refl, sym, ap, ◌∙◌, subst, ⊎_elim, arith}
use Rattle.std.specs.Prelude.{if◌then◌else◌, ◌↔◌}
use Rattle.std.specs.List.{list_any}
use Rattle.std.specs.Option.{option_map}
use Rattle.std.proofs.lemmas.Bool.{cases_lt, or_parts, eqb-true, eq-eqb, and_from, and_parts, lt-ltb, true≢false, false≢true}
use Rattle.std.proofs.lemmas.List.{get_or_past}
use Rattle.lt_isa.specs.declared.symbols.Note.{Note}
use Rattle.lt_isa.specs.Prelude.{Parts}
use Rattle.trace_patterns.specs.Prelude.{Known, is_secret, bank_known, note_known, register_fits, registers_fit, slot_fits, slots_fit, bank_fits, fits, FitsClaim, has_note_between, note_of_place, claimed_at}
use Rattle.trace_patterns.proofs.Ranges.{all_in, all_at}
use Rattle.trace_patterns.proofs.Masks.{length-marks, length-claims}

-- no note is found at a place that has none
none_at : (notes : List Note) (low high q : ℕ) → low < q → q < high
    → list_any (λ n. nat_lt low n.pc && nat_lt n.pc high) notes ≡ false → note_of_place notes q ≡ None
none_at [] low high q after before none = refl
none_at (n ∷ notes) low high q after before none =
    let tests = or_parts (nat_lt low n.pc && nat_lt n.pc high)
    (list_any (λ m. nat_lt low m.pc && nat_lt m.pc high) notes) none in
    by (n.pc == q) refl tests.0 (none_at notes low high q after before tests.1)
  where
    by : (same : Bool) → (n.pc == q) ≡ same → (nat_lt low n.pc && nat_lt n.pc high) ≡ false → note_of_place notes q
        ≡ None
        → note_of_place (n ∷ notes) q ≡ None
    by true is fails rest =
        let at : n.pc ≡ q = eqb-true n.pc q is in
        absurd (true≢false (sym (and_from (nat_lt low n.pc) (nat_lt n.pc high) (lt-ltb low n.pc (omega arith))
        (lt-ltb n.pc high (omega arith))) ∙ fails))
    by false is fails rest = ap (λ (b : Bool). if b then Some n else note_of_place notes q) is ∙ rest

-- no place inside a region has a claim, if no note is between its branch and its join
pub claimed_at-inside : (o : Parts) (p join q : ℕ) → has_note_between o p join ≡ false → p < q → q < join
    → claimed_at o q ≡ None
unfolding claimed_at
claimed_at-inside o p join q none after before = ap (option_map note_known) (none_at o.notes p join q after before none)

-- a claim is about 32 registers and 8 slots
pub record IsClaim (claimed : Known) : Type 0 where
  pub registers : length claimed.secret ≡ 32
  pub slots : length claimed.banks ≡ 8

note_is_claim : (o : Option Note) (claimed : Known) → option_map note_known o ≡ Some claimed → IsClaim claimed
note_is_claim None claimed e = absurd (let f : ◌≡◌ {A = Option Known} None (Some claimed) = e in cc)
note_is_claim (Some n) claimed e =
    let same : note_known n ≡ claimed = cc in
    subst IsClaim same (record { registers = length-marks 32 n.secrets; slots = length-claims 8 n.slots })

is_claim : (o : Parts) (p : ℕ) (claimed : Known) → claimed_at o p ≡ Some claimed → IsClaim claimed
unfolding claimed_at
is_claim o p claimed e = note_is_claim (note_of_place o.notes p) claimed e

label_fits : (s c : Bool) → (not s || c) ≡ true → s ≡ true → c ≡ true
label_fits true c fit secret = fit
label_fits false c fit secret = absurd (false≢true secret)

label_tested : (s c : Bool) → (s ≡ true → c ≡ true) → (not s || c) ≡ true
label_tested true c h = h refl
label_tested false c h = refl

bank_claimed : (known claim : Option ℕ) (b : ℕ) → bank_fits known claim ≡ true → claim ≡ Some b → known ≡ Some b
bank_claimed known None b fit e = absurd (let f : ◌≡◌ {A = Option ℕ} None (Some b) = e in cc)
bank_claimed None (Some c) b fit e = absurd (false≢true fit)
bank_claimed (Some a) (Some c) b fit e = ap Some (eqb-true a c fit) ∙ e

bank_tested : (known claim : Option ℕ) → ((b : ℕ) → claim ≡ Some b → known ≡ Some b) → bank_fits known claim ≡ true
bank_tested known None h = refl
bank_tested None (Some c) h = absurd (let f : ◌≡◌ {A = Option ℕ} None (Some c) = h c refl in cc)
bank_tested (Some a) (Some c) h = let same : Some a ≡ Some c = h c refl in eq-eqb a c cc

-- if the test of a claim passes, what is known fits it
pub fits_claim : (k claimed : Known) → IsClaim claimed → fits k claimed ≡ true → FitsClaim k claimed
unfolding registers_fit slots_fit
fits_claim k claimed size fit =
    let parts = and_parts (registers_fit 32 k claimed) (slots_fit 8 k claimed) fit in
    record {
      registers = λ r secret.
          ⊎_elim
          (λ (lt : r < 32). label_fits (is_secret k r) (is_secret claimed r)
          (all_at (register_fits k claimed) 0 32 r parts.0 (omega arith) (omega arith)) secret)
          (λ (le : 32 ≤ r). get_or_past claimed.secret r true (omega (arith, size.registers)))
          (cases_lt r 32);
      slots = λ j b known.
          ⊎_elim
          (λ (lt : j < 8). bank_claimed (bank_known k j) (bank_known claimed j) b
          (all_at (slot_fits k claimed) 0 8 j parts.1 (omega arith) (omega arith)) known)
          (λ (le : 8 ≤ j). absurd (let f : ◌≡◌ {A = Option ℕ} None (Some b) = sym
          (get_or_past claimed.banks j None (omega (arith, size.slots))) ∙ known in cc))
          (cases_lt j 8);
    }

-- if what is known fits a claim, the test passes
pub claim_tested : (k claimed : Known) → FitsClaim k claimed → fits k claimed ≡ true
unfolding registers_fit slots_fit
claim_tested k claimed h =
    and_from (registers_fit 32 k claimed) (slots_fit 8 k claimed)
    (all_in (register_fits k claimed) 0 32
    (λ r low high. label_tested (is_secret k r) (is_secret claimed r) (h.registers r)))
    (all_in (slot_fits k claimed) 0 8 (λ j low high. bank_tested (bank_known k j) (bank_known claimed j) (h.slots j)))

-- the test of a note's claim passes exactly if what is known fits it
pub fits-claim : (o : Parts) (p : ℕ) (k claimed : Known) → claimed_at o p ≡ Some claimed
    → (fits k claimed ≡ true) ↔ FitsClaim k claimed
fits-claim o p k claimed at = (fits_claim k claimed (is_claim o p claimed at), claim_tested k claimed)
