-- Labels that are stored as the bits of a mask, and banks that are stored as the bytes of claims.
use Rattle.std.proofs.Common.{◌≡◌, ℕ, zero, suc, ◌-◌, ◌*◌, ◌%◌, ◌^◌, ◌<◌, ◌≤◌, ◌==◌, Bool, true, false, not, ◌||◌, List, length, get_or, set, min, Option, Some, None, refl, sym, ap, ◌∙◌, subst, ⊎_elim, arith, length-set, get_or-set_same, get_or-set_other, w32, bit_and, bit_or}
use Rattle.std.specs.Int.{bit_at, bit_not}
use Rattle.std.specs.Prelude.{if◌then◌else◌}
use Rattle.std.specs.List.{range_with_len, list_all}
use Rattle.std.proofs.lemmas.Bool.{cases_eq, cases_lt, eq-eqb, ne_eqb, false≢true, false_from_ne_true}
use Rattle.std.proofs.lemmas.List.{ext_get_or}
use Rattle.std.proofs.lemmas.List.FromFn.{get_or-map-range_with_len, length-map-range_with_len}
use Rattle.std.proofs.lemmas.Nat.Bits.{bit_at_set_same, bit_at_set_other, bit_at_clear_same, bit_at_clear_other, bit_at_and, bit_at_not, bit_at-lt, bit_at_above, bit_at-zero, same_from_bits}
use Rattle.trace_patterns.specs.Prelude.{is_marked, claimed_bank, marks, claims, register_fits, registers_fit}
use Rattle.trace_patterns.proofs.Ranges.{all_in, all_at}

-- a mask has one mark for each register
pub length-marks : (count mask : ℕ) → length (marks count mask) ≡ count
unfolding marks
length-marks count mask = length-map-range_with_len (is_marked mask) 0 count

-- the mark of a register
pub get_or-marks : (count mask r : ℕ) (d : Bool) → r < count → get_or (marks count mask) r d ≡ is_marked mask r
unfolding marks
get_or-marks count mask r d inside = get_or-map-range_with_len (is_marked mask) 0 count r r d inside (omega arith)

-- there is one claim for each slot
pub length-claims : (count : ℕ) (slots : List ℕ) → length (claims count slots) ≡ count
unfolding claims
length-claims count slots = length-map-range_with_len (λ k. claimed_bank (get_or slots k 255)) 0 count

-- the claim of a slot
pub get_or-claims : (count : ℕ) (slots : List ℕ) (j : ℕ) (d : Option ℕ) → j < count
    → get_or (claims count slots) j d ≡ claimed_bank (get_or slots j 255)
unfolding claims
get_or-claims count slots j d inside =
    get_or-map-range_with_len (λ k. claimed_bank (get_or slots k 255)) 0 count j j d inside (omega arith)

-- the marks of a mask that differs from another only in bit r
marks_changed : (count mask other r : ℕ) (bit : Bool) → r < count → is_marked other r ≡ bit
    → ((i : ℕ) → i < count → (i ≡ r → ⊥) → bit_at other i ≡ bit_at mask i)
    → marks count other ≡ set (marks count mask) r bit
marks_changed count mask other r bit inside same kept =
    let sizes = length-marks count other ∙ sym (length-set (marks count mask) r bit ∙ length-marks count mask) in
    ext_get_or false (marks count other) (set (marks count mask) r bit) sizes (λ i lt.
    let within : i < count = omega (arith, length-marks count other) in
    ⊎_elim
    (λ (e : i ≡ r).
    let here : get_or (marks count other) r false ≡ get_or (set (marks count mask) r bit) r false =
    get_or-marks count other r false inside ∙ same
    ∙ sym (get_or-set_same (marks count mask) r bit false (omega (arith, length-marks count mask))) in
    subst (λ (q : ℕ). get_or (marks count other) q false ≡ get_or (set (marks count mask) r bit) q false) (sym e) here)
    (λ (ne : i ≡ r → ⊥).
    get_or-marks count other i false within ∙ ap (λ (n : ℕ). n == 1) (kept i within ne)
    ∙ sym (get_or-set_other (marks count mask) r i bit false ne ∙ get_or-marks count mask i false within))
    (cases_eq i r))

-- the marks of a mask in which one bit was set
pub marks-set_bit : (mask r : ℕ) → r < 32 → marks 32 (bit_or mask (1 * 2 ^ r % 2 ^ 32)) ≡ set (marks 32 mask) r true
marks-set_bit mask r inside =
    marks_changed 32 mask (bit_or mask (1 * 2 ^ r % 2 ^ 32)) r true inside
    (eq-eqb _ 1 (bit_at_set_same w32 mask r inside)) (λ i lt ne. bit_at_set_other w32 mask r inside i ne)

-- the marks of a mask in which one bit was cleared
pub marks-clear_bit : (mask r : ℕ) → r < 32
    → marks 32 (bit_and mask (bit_not w32 (1 * 2 ^ r % 2 ^ 32))) ≡ set (marks 32 mask) r false
marks-clear_bit mask r inside =
    marks_changed 32 mask (bit_and mask (bit_not w32 (1 * 2 ^ r % 2 ^ 32))) r false inside
    (ap (λ (n : ℕ). n == 1) (bit_at_clear_same w32 mask r inside))
    (λ i lt ne. bit_at_clear_other w32 mask r inside i lt ne)

-- one more slot is bound to a known bank
pub claims-set : (slots : List ℕ) (j bank : ℕ) → j < length slots → j < 8 → bank < 255
    → claims 8 (set slots j bank) ≡ set (claims 8 slots) j (Some bank)
claims-set slots j bank within inside small =
    let sizes = length-claims 8 (set slots j bank)
    ∙ sym (length-set (claims 8 slots) j (Some bank) ∙ length-claims 8 slots) in
    let claim : claimed_bank bank ≡ Some bank = ap (λ (b : Bool). let r : Option ℕ = if b then None else Some bank in r)
    (ne_eqb bank 255 (λ e. absurd (omega arith))) in
    ext_get_or None (claims 8 (set slots j bank)) (set (claims 8 slots) j (Some bank)) sizes (λ i lt.
    let fits : i < 8 = omega (arith, length-claims 8 (set slots j bank)) in
    ⊎_elim
    (λ (e : i ≡ j).
    let here : get_or (claims 8 (set slots j bank)) j None ≡ get_or (set (claims 8 slots) j (Some bank)) j None =
    get_or-claims 8 (set slots j bank) j None inside ∙ ap claimed_bank (get_or-set_same slots j bank 255 within) ∙ claim
    ∙ sym (get_or-set_same (claims 8 slots) j (Some bank) None (omega (arith, length-claims 8 slots))) in
    subst (λ (q : ℕ). get_or (claims 8 (set slots j bank)) q None ≡ get_or (set (claims 8 slots) j (Some bank)) q None)
    (sym e) here)
    (λ (ne : i ≡ j → ⊥).
    get_or-claims 8 (set slots j bank) i None fits ∙ ap claimed_bank (get_or-set_other slots j i bank 255 ne)
    ∙ sym (get_or-set_other (claims 8 slots) j i (Some bank) None ne ∙ get_or-claims 8 slots i None fits))
    (cases_eq i j))

-- if x isn't set without y, then y is set whenever x is
bits_fit : (x y : ℕ) → x < 2 → y < 2 → min x (1 - y) ≡ 0 → (not (x == 1) || (y == 1)) ≡ true
bits_fit zero y small_x small_y none = refl
bits_fit (suc zero) zero small_x small_y none = absurd (omega arith)
bits_fit (suc zero) (suc zero) small_x small_y none = refl
bits_fit (suc zero) (suc (suc y)) small_x small_y none = absurd (omega arith)
bits_fit (suc (suc x)) y small_x small_y none = absurd (omega arith)

bits_apart : (x y : ℕ) → x < 2 → y < 2 → (not (x == 1) || (y == 1)) ≡ true → min x (1 - y) ≡ 0
bits_apart zero y small_x small_y fit = omega arith
bits_apart (suc zero) zero small_x small_y fit = absurd (false≢true fit)
bits_apart (suc zero) (suc zero) small_x small_y fit = omega arith
bits_apart (suc zero) (suc (suc y)) small_x small_y fit = absurd (omega arith)
bits_apart (suc (suc x)) y small_x small_y fit = absurd (omega arith)

-- bit r of what is set in the first mask and not in the second
alone : (a b r : ℕ) → b < 2 ^ 32 → r < 32 → bit_at (bit_and a (bit_not w32 b)) r ≡ min (bit_at a r) (1 - bit_at b r)
alone a b r small inside = bit_at_and a (bit_not w32 b) r ∙ ap (min (bit_at a r)) (bit_at_not w32 b r small inside)

label_fits : (a b r : ℕ) → b < 2 ^ 32 → r < 32 → bit_and a (bit_not w32 b) ≡ 0
    → (not (is_marked a r) || is_marked b r) ≡ true
label_fits a b r small inside none =
    bits_fit (bit_at a r) (bit_at b r) (bit_at-lt a r) (bit_at-lt b r)
    (sym (alone a b r small inside) ∙ ap (λ n. bit_at n r) none ∙ bit_at-zero r)

none_alone : (a b : ℕ) → a < 2 ^ 32 → b < 2 ^ 32 → ((r : ℕ) → r < 32 → (not (is_marked a r) || is_marked b r) ≡ true)
    → bit_and a (bit_not w32 b) ≡ 0
none_alone a b small_a small_b fit =
    same_from_bits (bit_and a (bit_not w32 b)) 0 (λ i.
    ⊎_elim
    (λ (lt : i < 32). alone a b i small_b lt
    ∙ bits_apart (bit_at a i) (bit_at b i) (bit_at-lt a i) (bit_at-lt b i) (fit i lt) ∙ sym (bit_at-zero i))
    (λ (le : 32 ≤ i).
    let high : bit_at a i ≡ 0 = bit_at_above a 32 i small_a le in
    bit_at_and a (bit_not w32 b) i ∙ ap (λ n. min n (bit_at (bit_not w32 b) i)) high ∙ omega (arith, bit_at-zero i))
    (cases_lt i 32))

-- the labels of a mask fit those of another exactly if no bit is set only in the first
pub registers_fit-masks : (a b : ℕ) (first second : List (Option ℕ)) → a < 2 ^ 32 → b < 2 ^ 32
    → registers_fit 32 (record { secret = marks 32 a; banks = first })
    (record { secret = marks 32 b; banks = second }) ≡ (bit_and a (bit_not w32 b) == 0)
unfolding registers_fit
registers_fit-masks a b first second small_a small_b =
    ⊎_elim
    (λ (e : bit_and a (bit_not w32 b) ≡ 0).
    all_in fits 0 32 (λ r low high. same r (omega arith) ∙ label_fits a b r small_b (omega arith) e)
    ∙ sym (eq-eqb _ 0 e))
    (λ (ne : bit_and a (bit_not w32 b) ≡ 0 → ⊥).
    false_from_ne_true (list_all fits (range_with_len 0 32))
    (λ all. ne (none_alone a b small_a small_b
    (λ r inside. sym (same r inside) ∙ all_at fits 0 32 r all (omega arith) (omega arith)))) ∙ sym (ne_eqb _ 0 ne))
    (cases_eq (bit_and a (bit_not w32 b)) 0)
  where
    fits : ℕ → Bool
    fits =
        register_fits (record { secret = marks 32 a; banks = first }) (record { secret = marks 32 b; banks = second })

    same : (r : ℕ) → r < 32 → fits r ≡ (not (is_marked a r) || is_marked b r)
    same r inside =
        ap (λ (x : Bool). not x || get_or (marks 32 b) r true) (get_or-marks 32 a r true inside)
        ∙ ap (λ (x : Bool). not (is_marked a r) || x) (get_or-marks 32 b r true inside)
