-- The highest state that two states are at least, if there is one: a register is secret in it if it is in both, and a
-- bank is known if one of them knows it. There is none if they know different banks of a slot.
use Rattle.std.proofs.Common.{◌≡◌, ℕ, ◌<◌, ◌≤◌, ◌&&◌, Bool, true, false, List, map, length, get_or, ◌⊎◌, inl, inr, Option, Some, None, refl, sym, ap, ◌∙◌, subst, ⊎_elim, arith}
use Rattle.std.specs.List.{range_with_len}
use Rattle.std.proofs.lemmas.Bool.{cases_lt, and_parts, and_from}
use Rattle.std.proofs.lemmas.List.{get_or_past}
use Rattle.std.proofs.lemmas.List.FromFn.{get_or-map-range_with_len, length-map-range_with_len}
use Rattle.trace_patterns.specs.Prelude.{Known, is_secret, bank_known, fits, FitsClaim}
use Rattle.trace_patterns.proofs.Notes.{IsClaim, fits_claim, claim_tested}
use Rattle.note_infer.specs.Prelude.{States, IsAtLeast, IsFull}
use Rattle.note_infer.proofs.SameParts.{known_once, none_not}

-- n items, made one by one
pub made : {X : Type 0} → ℕ → (ℕ → X) → List X
made count f = map f (range_with_len 0 count)

pub length-made : {X : Type 0} (count : ℕ) (f : ℕ → X) → length (made count f) ≡ count
unfolding made
length-made count f = length-map-range_with_len f 0 count

pub get_or-made : {X : Type 0} (count : ℕ) (f : ℕ → X) (j : ℕ) (d : X) → j < count → get_or (made count f) j d ≡ f j
unfolding made
get_or-made count f j d lt = get_or-map-range_with_len f 0 count j j d lt (omega arith)

abbrev either_bank : Option ℕ → Option ℕ → Option ℕ
either_bank None y = y
either_bank (Some b) y = Some b

either_cases : (x y : Option ℕ) (b : ℕ) → either_bank x y ≡ Some b
    → (x ≡ Some b) ⊎ ((◌≡◌ {A = Option ℕ} x None) × (y ≡ Some b))
either_cases None y b e = inr (refl, e)
either_cases (Some a) y b e = inl e

abbrev labels_of_both : Known → Known → ℕ → Bool
labels_of_both one two r = is_secret one r && is_secret two r

abbrev banks_of_either : Known → Known → ℕ → Option ℕ
banks_of_either one two k = either_bank (bank_known one k) (bank_known two k)

pub lower : Known → Known → Known
lower one two = record { secret = made 32 (labels_of_both one two); banks = made 8 (banks_of_either one two) }

lower_full : (one two : Known) → IsFull (lower one two)
unfolding lower
lower_full one two = record {
  registers = length-made 32 (labels_of_both one two);
  slots = length-made 8 (banks_of_either one two);
}

lower_secret : (one two : Known) (r : ℕ) → r < 32 → is_secret (lower one two) r ≡ labels_of_both one two r
unfolding lower
lower_secret one two r lt = get_or-made 32 (labels_of_both one two) r true lt

lower_bank : (one two : Known) (k : ℕ) → k < 8 → bank_known (lower one two) k ≡ banks_of_either one two k
unfolding lower
lower_bank one two k lt = get_or-made 8 (banks_of_either one two) k None lt

pub past_secret : (k : Known) → IsFull k → (r : ℕ) → 32 ≤ r → is_secret k r ≡ true
past_secret k full r le = get_or_past k.secret r true (omega (arith, le, full.registers))

pub past_bank : {A : Type 0} (k : Known) → IsFull k → (j bank : ℕ) → 8 ≤ j → bank_known k j ≡ Some bank → A
past_bank k full j bank le e =
    absurd (let f : ◌≡◌ {A = Option ℕ} None (Some bank) =
    sym (get_or_past k.banks j None (omega (arith, le, full.slots))) ∙ e in cc)

-- a state that is at most both is at most this one, which then is at most both
module _ (one two low : Known) (one_full : IsFull one) (two_full : IsFull two) (low_full : IsFull low)
    (first : FitsClaim low one) (second : FitsClaim low two) where
  low_fits : FitsClaim low (lower one two)
  low_fits = record {
    registers = λ r e.
        ⊎_elim
        (λ (lt : r < 32). lower_secret one two r lt
        ∙ and_from (is_secret one r) (is_secret two r) (first.registers r e) (second.registers r e))
        (λ (le : 32 ≤ r). past_secret (lower one two) (lower_full one two) r le)
        (cases_lt r 32);
    slots = λ j b e.
        ⊎_elim
        (λ (lt : j < 8). by j b (either_cases (bank_known one j) (bank_known two j) b (sym (lower_bank one two j lt) ∙ e)))
        (λ (le : 8 ≤ j). past_bank (lower one two) (lower_full one two) j b le e)
        (cases_lt j 8);
  }
    where
      by : (j b : ℕ)
          → (bank_known one j ≡ Some b) ⊎ ((◌≡◌ {A = Option ℕ} (bank_known one j) None) × (bank_known two j ≡ Some b))
          → bank_known low j ≡ Some b
      by j b (inl e) = first.slots j b e
      by j b (inr h) = second.slots j b h.1

  fits_first : FitsClaim (lower one two) one
  fits_first = record {
    registers = λ r e.
        ⊎_elim
        (λ (lt : r < 32). (and_parts (is_secret one r) (is_secret two r) (sym (lower_secret one two r lt) ∙ e)).0)
        (λ (le : 32 ≤ r). past_secret one one_full r le)
        (cases_lt r 32);
    slots = λ j b e.
        ⊎_elim
        (λ (lt : j < 8). lower_bank one two j lt ∙ ap (λ (x : Option ℕ). either_bank x (bank_known two j)) e)
        (λ (le : 8 ≤ j). past_bank one one_full j b le e)
        (cases_lt j 8);
  }

  fits_second : FitsClaim (lower one two) two
  fits_second = record {
    registers = λ r e.
        ⊎_elim
        (λ (lt : r < 32). (and_parts (is_secret one r) (is_secret two r) (sym (lower_secret one two r lt) ∙ e)).1)
        (λ (le : 32 ≤ r). past_secret two two_full r le)
        (cases_lt r 32);
    slots = λ j b e.
        ⊎_elim
        (λ (lt : j < 8). lower_bank one two j lt ∙ by j b e (bank_known one j) refl)
        (λ (le : 8 ≤ j). past_bank two two_full j b le e)
        (cases_lt j 8);
  }
    where
      by : (j b : ℕ) → bank_known two j ≡ Some b → (x : Option ℕ) → bank_known one j ≡ x
          → either_bank (bank_known one j) (bank_known two j) ≡ Some b
      by j b e None is = ap (λ (y : Option ℕ). either_bank y (bank_known two j)) is ∙ e
      by j b e (Some w) is =
          ap (λ (y : Option ℕ). either_bank y (bank_known two j)) is
          ∙ sym (first.slots j w is) ∙ second.slots j b e

claim_of_full : (k : Known) → IsFull k → IsClaim k
claim_of_full k full = record { registers = full.registers; slots = full.slots }

pub have_lower : (one two : Known) → Bool
have_lower one two = fits (lower one two) one && fits (lower one two) two

abbrev pub if_lower : Bool → Known → Option Known
if_lower true k = Some k
if_lower false k = None

abbrev pub meet : Option Known → Option Known → Option Known
meet None y = None
meet (Some one) None = None
meet (Some one) (Some two) = if_lower (have_lower one two) (lower one two)

abbrev pub AllFullIn : Option Known → Type 0
AllFullIn x = (k : Known) → x ≡ Some k → IsFull k

-- what is known in both places
pub record Met (x y : Option Known) (k : Known) : Type 0 where
  pub one : Known
  pub two : Known
  pub at_one : x ≡ Some one
  pub at_two : y ≡ Some two
  pub low_one : FitsClaim k one
  pub low_two : FitsClaim k two
  pub full : IsFull k

pub met : (x y : Option Known) (k : Known) → AllFullIn x → AllFullIn y → meet x y ≡ Some k → Met x y k
unfolding have_lower
met None y k f g e = none_not k e
met (Some one) None k f g e = none_not k e
met (Some one) (Some two) k f g e = by (have_lower one two) refl e
  where
    lows : have_lower one two ≡ true → Met (Some one) (Some two) (lower one two)
    lows is =
        let parts = and_parts (fits (lower one two) one) (fits (lower one two) two) is in
        record {
          one = one;
          two = two;
          at_one = refl;
          at_two = refl;
          low_one = fits_claim (lower one two) one (claim_of_full one (f one refl)) parts.0;
          low_two = fits_claim (lower one two) two (claim_of_full two (g two refl)) parts.1;
          full = lower_full one two;
        }

    by : (low : Bool) → have_lower one two ≡ low → if_lower low (lower one two) ≡ Some k → Met (Some one) (Some two) k
    by false is e = none_not k e
    by true is e = subst (Met (Some one) (Some two)) (known_once (lower one two) k e) (lows is)

-- where something is at most both, it is at most what both meet in
pub meets_above : (one two : States) (q : ℕ) (low : Known) → AllFullIn (one q) → AllFullIn (two q) → IsFull low
    → IsAtLeast one q low → IsAtLeast two q low → IsAtLeast (λ x. meet (one x) (two x)) q low
unfolding have_lower
meets_above one two q low f g full a b = record {
  known = lower a.known b.known;
  is = ap (λ (x : Option Known). meet x (two q)) a.is ∙ ap (meet (Some a.known)) b.is
      ∙ ap (λ (t : Bool). if_lower t (lower a.known b.known)) have;
  above = low_fits a.known b.known low one_full two_full full a.above b.above;
}
  where
    one_full : IsFull a.known
    one_full = f a.known a.is

    two_full : IsFull b.known
    two_full = g b.known b.is

    have : have_lower a.known b.known ≡ true
    have =
        and_from (fits (lower a.known b.known) a.known) (fits (lower a.known b.known) b.known)
        (claim_tested (lower a.known b.known) a.known
        (fits_first a.known b.known low one_full two_full full a.above b.above))
        (claim_tested (lower a.known b.known) b.known
        (fits_second a.known b.known low one_full two_full full a.above b.above))
