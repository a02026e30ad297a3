-- The block that a slot holds for the whole run: that of the scalars, or that of the array whose own slot it is.
use Rattle.std.proofs.Common.{◌≡◌, ℕ, zero, suc, ◌<◌, ◌≤◌, Bool, true, false, eqb, List, length, get_or, Option, Some, None, refl, ⊎_elim, sym, ap, ◌∙◌, subst, arith}
use Rattle.std.specs.Prelude.{◌&&◌, find}
use Rattle.std.specs.List.{position_or_len}
use Rattle.std.specs.Option.{option_map}
use Rattle.std.proofs.lemmas.List.Folds.{find_at}
use Rattle.std.proofs.lemmas.List.Sums.{fails_before_first, passes_at_first}
use Rattle.std.proofs.lemmas.Option.{get_or_from_slice_get, slice_get-get_or, slice_get_within}
use Rattle.std.proofs.lemmas.Bool.{cases_lt, and_parts, and_from, eqb-true, eq-eqb}
use Rattle.scratch_alloc.specs.declared.plans.Pin.{Pin}
use Rattle.resident_alloc.specs.declared.storages.Storage.{Storage}
use Rattle.resident_alloc.specs.declared.storages.Storage.TheVariants.{Scalar, Shared, Own, Cached, Oblivious}
use Rattle.resident_alloc.specs.Prelude.{Planned, is_own_storage, own_pin, pins_of}

-- what is found in a list is an item of it that passes the test
record IsFound {X : Type 0} (test : X → Bool) (xs : List X) (x : X) : Type 0 where
  at : ℕ
  within : at < length xs
  item : (d : X) → get_or xs at d ≡ x
  passes : test x ≡ true

found : {X : Type 0} (test : X → Bool) (xs : List X) (x : X) → find test xs ≡ Some x → IsFound test xs x
found test xs x is =
    let first = position_or_len test xs in
    let reads = sym (find_at test xs) ∙ is in
    let within = slice_get_within xs first x reads in
    record {
      at = first;
      within = within;
      item = λ d. get_or_from_slice_get xs first x d reads;
      passes = ap test (sym (get_or_from_slice_get xs first x x reads)) ∙ passes_at_first test xs x within;
    }

none_found : {X : Type 0} (test : X → Bool) (xs : List X) (k : ℕ) (d : X) → find test xs ≡ None → k < length xs
    → test (get_or xs k d) ≡ false
none_found test xs k d is within =
    let first = position_or_len test xs in
    ⊎_elim
    (λ here.
    let e : Some (get_or xs first d) ≡ None = sym (slice_get-get_or xs first d here) ∙ sym (find_at test xs) ∙ is in
    absurd (cc))
    (λ past. fails_before_first test xs k d (omega (arith, past, within)))
    (cases_lt first (length xs))

own_storage : (s : Storage) → is_own_storage s ≡ true → s ≡ Own
own_storage Own is = refl
own_storage other is = absurd (let e : false ≡ true = is in cc)

-- the block at a variable's place
abbrev pub pin_of : Planned → Pin
pin_of v = record { bank = v.place.bank; block = v.place.block }

-- a variable has this slot to itself
pub record OwnsSlot (all : List Planned) (slot : ℕ) (p : Pin) : Type 0 where
  pub at : ℕ
  pub within : at < length all
  pub own : (d : Planned) → (get_or all at d).storage ≡ Own
  pub slot_is : (d : Planned) → (get_or all at d).slot ≡ slot
  pub pin : (d : Planned) → pin_of (get_or all at d) ≡ p

abbrev own_test : ℕ → Planned → Bool
own_test slot v = is_own_storage v.storage && eqb v.slot slot

pub owns_slot : (all : List Planned) (slot : ℕ) (p : Pin) → own_pin all slot ≡ Some p → OwnsSlot all slot p
owns_slot all slot p is = by (find (own_test slot) all) refl is where
  by : (o : Option Planned) → find (own_test slot) all ≡ o → option_map pin_of o ≡ Some p → OwnsSlot all slot p
  by None none is = absurd (let e : ◌≡◌ {A = Option Pin} None (Some p) = is in cc)
  by (Some x) some is =
      let f = found (own_test slot) all x some in
      let parts = and_parts (is_own_storage x.storage) (eqb x.slot slot) f.passes in
      let same : pin_of x ≡ p = let e : Some (pin_of x) ≡ Some p = is in cc in
      record {
        at = f.at;
        within = f.within;
        own = λ d. ap (λ (v : Planned). v.storage) (f.item d) ∙ own_storage x.storage parts.0;
        slot_is = λ d. ap (λ (v : Planned). v.slot) (f.item d) ∙ eqb-true x.slot slot parts.1;
        pin = λ d. ap pin_of (f.item d) ∙ same;
      }

-- a slot that is an array's own holds some block
pub own_pin_some : (all : List Planned) (k : ℕ) (d : Planned) → k < length all → (get_or all k d).storage ≡ Own
    → own_pin all (get_or all k d).slot ≡ None → ⊥
own_pin_some all k d within own none = by (find (own_test slot) all) refl none where
  slot : ℕ
  slot = (get_or all k d).slot

  by : (o : Option Planned) → find (own_test slot) all ≡ o → option_map pin_of o ≡ None → ⊥
  by None is none =
      let no = none_found (own_test slot) all k d is within in
      let yes = and_from (is_own_storage (get_or all k d).storage) (eqb (get_or all k d).slot slot)
      (ap is_own_storage own) (eq-eqb (get_or all k d).slot slot refl) in
      let e : true ≡ false = sym yes ∙ no in cc
  by (Some x) is none = let e : ◌≡◌ {A = Option Pin} (Some (pin_of x)) None = none in cc

-- which block a slot holds for the whole run
pub data IsPinned (all : List Planned) : ℕ → Pin → Type 0 where
  ByScalars : (bank : ℕ) → bank < 2 → IsPinned all bank (record { bank = bank; block = 0 })
  ByArray : (slot : ℕ) (p : Pin) → OwnsSlot all slot p → IsPinned all slot p

scalars_pin : (all : List Planned) (bank : ℕ) (p : Pin) → bank < 2
    → ◌≡◌ {A = Option Pin} (Some (record { bank = bank; block = 0 })) (Some p) → IsPinned all bank p
scalars_pin all bank p low is =
    let q : Pin = record { bank = bank; block = 0 } in
    let same : q ≡ p = cc in
    subst (IsPinned all bank) same (ByScalars bank low)

pub pinned : (all : List Planned) (slot : ℕ) (p : Pin) → get_or (pins_of all) slot None ≡ Some p → IsPinned all slot p
pinned all zero p is = scalars_pin all 0 p (omega arith) is
pinned all (suc zero) p is = scalars_pin all 1 p (omega arith) is
pinned all (suc (suc zero)) p is = ByArray 2 p (owns_slot all 2 p is)
pinned all (suc (suc (suc zero))) p is = ByArray 3 p (owns_slot all 3 p is)
pinned all (suc (suc (suc (suc zero)))) p is = ByArray 4 p (owns_slot all 4 p is)
pinned all (suc (suc (suc (suc (suc zero))))) p is = ByArray 5 p (owns_slot all 5 p is)
pinned all (suc (suc (suc (suc (suc (suc zero)))))) p is = absurd (let e : ◌≡◌ {A = Option Pin} None (Some p) = is in cc)
pinned all (suc (suc (suc (suc (suc (suc (suc zero))))))) p is = ByArray 7 p (owns_slot all 7 p is)
pinned all (suc (suc (suc (suc (suc (suc (suc (suc n)))))))) p is =
    absurd (let e : ◌≡◌ {A = Option Pin} None (Some p) = is in cc)

-- the slots of single arrays hold their blocks
pub pin_by_array : (all : List Planned) (slot : ℕ) → 2 ≤ slot → slot < 8 → (slot ≡ 6 → ⊥)
    → get_or (pins_of all) slot None ≡ own_pin all slot
pin_by_array all zero low high other = absurd (omega (arith, low))
pin_by_array all (suc zero) low high other = absurd (omega (arith, low))
pin_by_array all (suc (suc zero)) low high other = refl
pin_by_array all (suc (suc (suc zero))) low high other = refl
pin_by_array all (suc (suc (suc (suc zero)))) low high other = refl
pin_by_array all (suc (suc (suc (suc (suc zero))))) low high other = refl
pin_by_array all (suc (suc (suc (suc (suc (suc zero)))))) low high other = absurd (other (omega arith))
pin_by_array all (suc (suc (suc (suc (suc (suc (suc zero))))))) low high other = refl
pin_by_array all (suc (suc (suc (suc (suc (suc (suc (suc n)))))))) low high other = absurd (omega (arith, high))
