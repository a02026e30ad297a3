-- The slots of the blocks that follow the first one of a place, by the pins of a plan.
use Rattle.std.proofs.Common.{◌≡◌, ℕ, zero, suc, ◌+◌, ◌-◌, ◌*◌, ◌^◌, ◌<◌, ◌≤◌, Bool, true, false, cond, List, [], ◌∷◌, length, take, get_or, Option, Some, None, refl, sym, ap, ◌∙◌, subst, ⊎_elim, arith, pow_pos}
use Rattle.std.specs.Prelude.{◌==◌, ◌&&◌, min, is_some}
use Rattle.std.proofs.Math.Nat.{div-lt_iff_lt-mul, mul-le-mul_left}
use Rattle.std.proofs.lemmas.Bool.{and_parts, cases_lt, eqb-true, eq-eqb}
use Rattle.std.proofs.lemmas.List.{get_or-take, length-take, take_all}
use Rattle.bank_alloc.specs.declared.places.Place.{Place}
use Rattle.bank_alloc.specs.Prelude.{blocks_for}
use Rattle.bank_alloc.proofs.EachPlace.{blocks_for-hold}
use Rattle.scratch_alloc.specs.Prelude.{pin_to}
use Rattle.block_cache_gen.specs.Prelude.{Pin, is_pinned, is_pin_to, slot_from, further_blocks, four_slots}

-- the slot that is found is pinned to the block, if some slot is
pin_same : (p : Option Pin) (bank block : ℕ) → is_pin_to p bank block ≡ true → p ≡ Some (pin_to bank block)
pin_same None bank block is = absurd (let e : false ≡ true = is in cc)
pin_same (Some p) bank block is =
    let parts = and_parts (p.bank == bank) (p.block == block) is in
    (λ i. Some (record { bank = eqb-true p.bank bank parts.0 i; block = eqb-true p.block block parts.1 i }))

pin_found : (bank block : ℕ) → is_pin_to (Some (pin_to bank block)) bank block ≡ true
pin_found bank block =
    ap (λ b. b && (block == block)) (eq-eqb bank bank refl) ∙ eq-eqb block block refl

-- one pin more
found_more : (k : ℕ) (pin : Option Pin) (pins : List (Option Pin)) (bank block : ℕ) (b : Bool)
    → is_pin_to pin bank block ≡ b
    → ((t : ℕ) → get_or pins t None ≡ Some (pin_to bank block)
    → (k + 1 ≤ slot_from (k + 1) pins bank block)
    × (get_or pins (slot_from (k + 1) pins bank block - (k + 1)) None ≡ Some (pin_to bank block)))
    → (t : ℕ) → get_or (pin ∷ pins) t None ≡ Some (pin_to bank block)
    → (k ≤ cond b k (slot_from (k + 1) pins bank block))
    × (get_or (pin ∷ pins) (cond b k (slot_from (k + 1) pins bank block) - k) None ≡ Some (pin_to bank block))
found_more k pin pins bank block true same more t is = (
  omega arith,
  ap (λ m. get_or (pin ∷ pins) m None) (let e : k - k ≡ 0 = omega arith in e) ∙ pin_same pin bank block same,
)
found_more k pin pins bank block false other more zero is =
    absurd (let e : false ≡ true = sym other ∙ ap (λ p. is_pin_to p bank block) is ∙ pin_found bank block in cc)
found_more k pin pins bank block false other more (suc t) is =
    let rest = more t is in
    let past = rest.0 in (
      omega (arith, past),
      ap (λ m. get_or (pin ∷ pins) m None)
          (let e : slot_from (k + 1) pins bank block - k ≡ suc (slot_from (k + 1) pins bank block - (k + 1)) =
          omega (arith, past) in e)
          ∙ rest.1,
    )

pub slot_from-is : (k : ℕ) (pins : List (Option Pin)) (bank block t : ℕ)
    → get_or pins t None ≡ Some (pin_to bank block)
    → (k ≤ slot_from k pins bank block)
    × (get_or pins (slot_from k pins bank block - k) None ≡ Some (pin_to bank block))
slot_from-is k [] bank block t is =
    absurd (let e : ◌≡◌ {A = Option Pin} None (Some (pin_to bank block)) = is in cc)
slot_from-is k (pin ∷ pins) bank block t is =
    found_more k pin pins bank block (is_pin_to pin bank block) refl
    (λ t' is'. slot_from-is (k + 1) pins bank block t' is') t is

pub slot_of_block : (pins : List (Option Pin)) (bank block t : ℕ) → get_or pins t None ≡ Some (pin_to bank block)
    → get_or pins (slot_from 0 pins bank block) None ≡ Some (pin_to bank block)
slot_of_block pins bank block t is =
    ap (λ m. get_or pins m None) (let e : slot_from 0 pins bank block ≡ slot_from 0 pins bank block - 0 = omega arith in e)
    ∙ (slot_from-is 0 pins bank block t is).1

-- a place in one block has no further ones
none_further : (n : ℕ) (slots : List ℕ) → n ≡ 0 → take 4 (take n slots) ≡ []
none_further zero slots is = refl
none_further (suc n) slots is = absurd (omega (arith, is))

one_for : (size words : ℕ) → 0 < size → words ≤ size → blocks_for size words ≤ 1
one_for size words some low =
    let e : blocks_for size words < 2 =
    (div-lt_iff_lt-mul {k = size} {x = words + (size - 1)} {y = 2} some).1 (omega (arith, low, some)) in
    omega (arith, e)

pub single_place : (pins : List (Option Pin)) (w : ℕ) (q : Place) (slot : ℕ) → q.length ≤ 2 ^ w
    → take 4 (take (further_blocks pins w q slot) (four_slots pins q)) ≡ []
single_place pins w q slot low = none_further (further_blocks pins w q slot) (four_slots pins q) (by (is_pinned pins slot))
  where
    by : (b : Bool) → cond b (min 4 (blocks_for (2 ^ w) q.length - 1)) 0 ≡ 0
    by true = let one = one_for (2 ^ w) q.length (pow_pos w) low in omega (arith, one)
    by false = refl

pub unpinned_place : (pins : List (Option Pin)) (w : ℕ) (q : Place) (slot : ℕ) → get_or pins slot None ≡ None
    → take 4 (take (further_blocks pins w q slot) (four_slots pins q)) ≡ []
unpinned_place pins w q slot none =
    none_further (further_blocks pins w q slot) (four_slots pins q)
    (ap (λ (p : Option Pin). cond (is_some p) (min 4 (blocks_for (2 ^ w) q.length - 1)) 0) none)

-- the slots of a place of up to five blocks, each of which some slot is pinned to
pub record Further (pins : List (Option Pin)) (w : ℕ) (q : Place) (slots : List ℕ) : Type 0 where
  pub inside : q.length ≤ (1 + length slots) * 2 ^ w
  pub needs : (j : ℕ) → j < length slots → (1 + j) * 2 ^ w < q.length
  pub found : (j : ℕ) → j < length slots → (t : ℕ) → get_or pins t None ≡ Some (pin_to q.bank (q.block + (1 + j)))
      → get_or pins (get_or slots j 0) None ≡ Some (pin_to q.bank (q.block + (1 + j)))

pub further_blocks-is : (pins : List (Option Pin)) (w : ℕ) (q : Place) (slot : ℕ) (p : Pin)
    → get_or pins slot None ≡ Some p → q.length ≤ 5 * 2 ^ w
    → Further pins w q (take 4 (take (further_blocks pins w q slot) (four_slots pins q)))
further_blocks-is pins w q slot p is few =
    let size = pow_pos w in
    let n = further_blocks pins w q slot in
    let count : n ≡ min 4 (blocks_for (2 ^ w) q.length - 1) =
    ap (λ (p : Option Pin). cond (is_some p) (min 4 (blocks_for (2 ^ w) q.length - 1)) 0) is in
    let most : blocks_for (2 ^ w) q.length < 6 =
    (div-lt_iff_lt-mul {k = 2 ^ w} {x = q.length + (2 ^ w - 1)} {y = 6} size).1 (omega (arith, few, size)) in
    let slots = take n (four_slots pins q) in
    let long : length slots ≡ min n 4 = length-take n (four_slots pins q) in
    let exact : length slots ≡ blocks_for (2 ^ w) q.length - 1 = omega (arith, long, count, most) in
    let all : take 4 slots ≡ slots = take_all 4 slots (omega (arith, long)) in
    subst (Further pins w q) (sym all)
    (record {
      inside =
          let hold = blocks_for-hold (2 ^ w) q.length size in
          let more = more_blocks (2 ^ w) (blocks_for (2 ^ w) q.length) (1 + length slots)
          (omega (arith, exact)) in
          omega (arith, hold, more);
      needs = λ j within. needed (2 ^ w) q.length (1 + j) size (omega (arith, within, exact));
      found = λ j within t at.
          ap (λ m. get_or pins m None) (get_or-take n (four_slots pins q) j 0 (omega (arith, within, long)))
          ∙ each j (omega (arith, within, long)) t at;
    })
  where
    more_blocks : (size a b : ℕ) → a ≤ b → a * size ≤ b * size
    more_blocks size a b less = let e : size * a ≤ size * b = mul-le-mul_left size less in omega (arith, e)

    needed : (size words j : ℕ) → 0 < size → j < blocks_for size words → j * size < words
    needed size words j some less =
        ⊎_elim (λ h. h)
        (λ past.
        let e : blocks_for size words < j + 1 =
        (div-lt_iff_lt-mul {k = size} {x = words + (size - 1)} {y = j + 1} some).1 (omega (arith, past, some)) in
        absurd (omega (arith, e, less)))
        (cases_lt (j * size) words)

    each : (j : ℕ) → j < 4 → (t : ℕ) → get_or pins t None ≡ Some (pin_to q.bank (q.block + (1 + j)))
        → get_or pins (get_or (four_slots pins q) j 0) None ≡ Some (pin_to q.bank (q.block + (1 + j)))
    each zero low t at = slot_of_block pins q.bank (q.block + 1) t at
    each (suc zero) low t at = slot_of_block pins q.bank (q.block + 2) t at
    each (suc (suc zero)) low t at = slot_of_block pins q.bank (q.block + 3) t at
    each (suc (suc (suc zero))) low t at = slot_of_block pins q.bank (q.block + 4) t at
    each (suc (suc (suc (suc j)))) low t at = absurd (omega (arith, low))
