-- The slot of each variable, by its number: a scalar's, and an array's by its bank.
use Rattle.std.proofs.Common.{◌≡◌, ℕ, zero, suc, ◌+◌, ◌<◌, ◌≤◌, true, false, cond, List, [], ◌∷◌, ◌++◌, length, take, get_or, refl, sym, ap, ◌∙◌, subst, arith, append_assoc}
use Rattle.std.specs.Prelude.{nat_le, if◌then◌else◌}
use Rattle.std.proofs.Math.Nat.{mod-le}
use Rattle.std.proofs.lemmas.Bool.{le-leb}
use Rattle.std.proofs.lemmas.List.{append-nil}
use Rattle.gr_base.specs.Prelude.{Within}
use Rattle.lt_isa.specs.Prelude.{is_ram}
use Rattle.bank_alloc.specs.declared.places.Place.{Place}
use Rattle.bank_alloc.specs.Prelude.{is_array, arrays_in}
use Rattle.scratch_alloc.specs.Prelude.{alternate_slot, scalar_slot, array_slot, slot_behind, slots_behind, slots_of}

-- as many slots as places
length-slots_behind : (before places : List Place) → length (slots_behind before places) ≡ length places
unfolding slots_behind
length-slots_behind before [] = refl
length-slots_behind before (q ∷ places) = ap suc (length-slots_behind (before ++ q ∷ []) places)

-- each variable has a slot
pub length-slots : (places : List Place) → length (slots_of places) ≡ length places
length-slots places = length-slots_behind [] places

-- the slot of place number k
get_or-slots_behind : (before places : List Place) (k d : ℕ) (q : Place) → k < length places
    → get_or (slots_behind before places) k d ≡ slot_behind (before ++ take k places) (get_or places k q)
unfolding slots_behind
get_or-slots_behind before [] k d q within = absurd (omega arith)
get_or-slots_behind before (r ∷ places) zero d q within = ap (λ b. slot_behind b r) (sym (append-nil before))
get_or-slots_behind before (r ∷ places) (suc k) d q within =
    get_or-slots_behind (before ++ r ∷ []) places k d q (omega arith)
    ∙ ap (λ b. slot_behind b (get_or places k q)) (append_assoc before (r ∷ []) (take k places))

-- the slot of variable number k: after the places before it
pub get_or-slots : (places : List Place) (k d : ℕ) (q : Place) → k < length places
    → get_or (slots_of places) k d ≡ slot_behind (take k places) (get_or places k q)
get_or-slots places k d q within = get_or-slots_behind [] places k d q within

-- a scalar's slot has its bank's number
pub scalar_slot-is : (before : List Place) (q : Place) → is_array q ≡ false → q.bank < 2 → slot_behind before q ≡ q.bank
scalar_slot-is before q scalar low = ap (λ b. cond b (array_slot before q) (scalar_slot q)) scalar ∙ by q.bank low
  where
    by : (bank : ℕ) → bank < 2 → (if is_ram bank then 0 else 1) ≡ bank
    by zero low = refl
    by (suc zero) low = refl
    by (suc (suc n)) low = absurd (omega arith)

-- an array's slot is one of two by its bank, or slot 6 where that is oblivious
of_bank : (bank plain encrypted : ℕ) → ℕ
of_bank bank plain encrypted = cond (nat_le 2 bank) 6
    (cond (is_ram bank) (alternate_slot 2 plain) (alternate_slot 4 encrypted))

array_slot-is : (before : List Place) (q : Place) (bank : ℕ) → is_array q ≡ true → q.bank ≡ bank
    → slot_behind before q ≡ of_bank bank (arrays_in 0 before) (arrays_in 1 before)
unfolding of_bank
array_slot-is before q bank array is =
    ap (λ b. cond b (array_slot before q) (scalar_slot q)) array
    ∙ ap (λ b. of_bank b (arrays_in 0 before) (arrays_in 1 before)) is

in_turn-within : (slot arrays : ℕ) → Within slot (slot + 1) (alternate_slot slot arrays)
in_turn-within slot arrays = (omega arith, omega (arith, mod-le arrays 2))

-- an array of plain memory has slot 2 or 3
pub array_slot-plain : (before : List Place) (q : Place) → is_array q ≡ true → q.bank ≡ 0
    → Within 2 3 (slot_behind before q)
unfolding of_bank
array_slot-plain before q array plain =
    subst (Within 2 3) (sym (array_slot-is before q 0 array plain)) (in_turn-within 2 (arrays_in 0 before))

-- an array of encrypted memory has slot 4 or 5
pub array_slot-encrypted : (before : List Place) (q : Place) → is_array q ≡ true → q.bank ≡ 1
    → Within 4 5 (slot_behind before q)
unfolding of_bank
array_slot-encrypted before q array encrypted =
    subst (Within 4 5) (sym (array_slot-is before q 1 array encrypted)) (in_turn-within 4 (arrays_in 1 before))

-- an oblivious array has slot 6
pub array_slot-oblivious : (before : List Place) (q : Place) → is_array q ≡ true → 2 ≤ q.bank → slot_behind before q ≡ 6
unfolding of_bank
array_slot-oblivious before q array past =
    array_slot-is before q q.bank array refl
    ∙ ap (λ b. cond b 6 (cond (is_ram q.bank) (alternate_slot 2 (arrays_in 0 before))
    (alternate_slot 4 (arrays_in 1 before))))
    (le-leb 2 q.bank past)
