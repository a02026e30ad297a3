-- The plan without --fast is sound: the scalars are resident in the first blocks of plain and encrypted memory, and
-- each array has whole blocks after those.
use Rattle.std.proofs.Common.{◌≡◌, ℕ, zero, suc, ◌^◌, ◌<◌, ◌≤◌, true, List, length, take, get_or, Option, Some, None, inl, refl, sym, ap, ◌∙◌, subst, ⊎_elim, arith}
use Rattle.std.proofs.lemmas.Bool.{cases_lt, cases_eq}
use Rattle.gr_base.specs.Prelude.{Within}
use Rattle.gr_word.specs.declared.variables.Label.{Label}
use Rattle.gr_word.specs.declared.variables.Label.TheVariants.{Public, Secret}
use Rattle.src_tree.specs.declared.trees.Decl.{Decl}
use Rattle.src_tree.specs.Prelude.{IsWithinLimits, words_of, Source}
use Rattle.bank_alloc.specs.declared.classes.Class.{Class}
use Rattle.bank_alloc.specs.declared.classes.Class.TheVariants.{ObliviousArray}
use Rattle.bank_alloc.specs.declared.places.Place.{Place}
use Rattle.bank_alloc.specs.Prelude.{scalar_bank, class_of, Fits, place_behind, places_of, bank_count, is_array}
use Rattle.bank_alloc.proofs.Apart.{array_behind_scalars, scalar_bank-lt}
use Rattle.bank_alloc.proofs.BankSizes.{bank_some}
use Rattle.bank_alloc.proofs.EachPlace.{bank_of_label, length-places, get_or-places, scalar_place_at, array_place_at}
use Rattle.bank_alloc.proofs.Refusals.{length-blocks, get_or-blocks, bank_count-le}
use Rattle.bank_alloc.proofs.SoundPlaces.{places_sound}
use Rattle.scratch_alloc.specs.Prelude.{Pin, IsSoundPlan, IsSoundResident, IsSoundArray, IsSoundByPin, Serves, PlainSlot, EncryptedSlot, ObliviousSlot, scalar_pins, standard_plan, pin_of_slot, no_decl, no_place, slot_behind, slots_of}
use Rattle.scratch_alloc.proofs.Serving.{serves-within}
use Rattle.scratch_alloc.proofs.EachSlot.{length-slots, get_or-slots, scalar_slot-is, array_slot-plain, array_slot-encrypted, array_slot-oblivious}

-- slots 0 and 1 hold block 0 of the banks of their numbers, and no others hold one
record IsScalarPin (slot : ℕ) (q : Pin) : Type 0 where
  pub low : slot < 2
  pub bank : q.bank ≡ slot
  pub block : q.block ≡ 0

no_pin : (slot : ℕ) → 2 ≤ slot → get_or scalar_pins slot None ≡ None
no_pin zero high = absurd (omega (arith, high))
no_pin (suc zero) high = absurd (omega (arith, high))
no_pin (suc (suc zero)) high = refl
no_pin (suc (suc (suc zero))) high = refl
no_pin (suc (suc (suc (suc zero)))) high = refl
no_pin (suc (suc (suc (suc (suc zero))))) high = refl
no_pin (suc (suc (suc (suc (suc (suc zero)))))) high = refl
no_pin (suc (suc (suc (suc (suc (suc (suc zero))))))) high = refl
no_pin (suc (suc (suc (suc (suc (suc (suc (suc n)))))))) high = refl

scalar_pin : (slot : ℕ) → slot < 2 → get_or scalar_pins slot None ≡ Some (record { bank = slot; block = 0 })
scalar_pin zero low = refl
scalar_pin (suc zero) low = refl
scalar_pin (suc (suc n)) low = absurd (omega (arith, low))

pin-cases : (slot : ℕ) (q : Pin) → get_or scalar_pins slot None ≡ Some q → IsScalarPin slot q
pin-cases slot q is =
    ⊎_elim
    (λ low.
    let e : ◌≡◌ {A = Option Pin} (Some (record { bank = slot; block = 0 })) (Some q) = sym (scalar_pin slot low) ∙ is in
    let same : record { bank = slot; block = 0 } ≡ q = cc in
    record {
      low = low;
      bank = ap (λ (p : Pin). p.bank) (sym same);
      block = ap (λ (p : Pin). p.block) (sym same);
    })
    (λ high. absurd (let e : ◌≡◌ {A = Option Pin} None (Some q) = sym (no_pin slot high) ∙ is in cc))
    (cases_lt slot 2)

-- an array's slot serves its bank
serves-array : (before : List Place) (q : Place) → is_array q ≡ true → (bank slot : ℕ) → q.bank ≡ bank
    → slot_behind before q ≡ slot → Serves bank slot
serves-array before q array zero slot is by =
    PlainSlot slot (subst (Within 2 3) by (array_slot-plain before q array is))
serves-array before q array (suc zero) slot is by =
    EncryptedSlot slot (subst (Within 4 5) by (array_slot-encrypted before q array is))
serves-array before q array (suc (suc n)) slot is by =
    let past : 2 ≤ q.bank = omega (arith, is) in
    subst (Serves (suc (suc n))) (sym (array_slot-oblivious before q array past) ∙ by)
    (ObliviousSlot (suc (suc n)) (omega arith))

-- an array with a secret index is in an oblivious bank
oblivious_bank : (size : ℕ) (before : List Place) (class : Class) (words : ℕ) → class ≡ ObliviousArray
    → 2 ≤ (place_behind size before class words).bank
oblivious_bank size before class words is =
    subst (λ c. 2 ≤ (place_behind size before c words).bank) (sym is) (omega arith)

module _ (p : Source) (w : ℕ) (limits : IsWithinLimits p) (fit : Fits p w) where
  abbrev place : ℕ → Place
  place k = get_or (places_of p w) k no_place

  abbrev slot : ℕ → ℕ
  slot k = get_or (slots_of (places_of p w)) k 0

  abbrev decl : ℕ → Decl
  decl k = get_or p.decls k no_decl

  slot-is : (k : ℕ) → k < length p.decls → slot k ≡ slot_behind (take k (places_of p w)) (place k)
  slot-is k below = get_or-slots (places_of p w) k 0 no_place (omega (arith, below, length-places p w))

  -- a scalar is resident in the first block of its bank
  scalar-served : (k : ℕ) → k < length p.decls → (decl k).length ≡ None
      → IsSoundByPin w (standard_plan p w) (decl k) (place k) (slot k) (pin_of_slot (standard_plan p w) (slot k))
  scalar-served k below none =
      let is = scalar_place_at p w k no_decl no_place below none in
      let low : (place k).bank < 2 = omega (arith, is.bank, scalar_bank-lt (decl k).label) in
      let same = slot-is k below ∙ scalar_slot-is (take k (places_of p w)) (place k) is.scalar low in
      let word = (places_sound p w limits fit).place k below in
      let here : IsSoundResident w (standard_plan p w) (decl k) (place k) (record { bank = slot k; block = 0 }) = record {
        bank = is.bank;
        pinned_bank = same;
        pinned_block = sym is.block;
        inside = inl (omega (arith, word.word, is.one_word));
      } in
      subst (IsSoundByPin w (standard_plan p w) (decl k) (place k) (slot k))
      (sym (scalar_pin (slot k) (omega (arith, same, low)))) here

  -- an array follows the scalars of its bank
  array-served : (k n : ℕ) → k < length p.decls → (decl k).length ≡ Some n
      → IsSoundByPin w (standard_plan p w) (decl k) (place k) (slot k) (pin_of_slot (standard_plan p w) (slot k))
  array-served k n below some =
      let is = array_place_at p w k n no_decl no_place below some in
      let serves = serves-array (take k (places_of p w)) (place k) is.array (place k).bank (slot k) refl
      (sym (slot-is k below)) in
      let here : IsSoundArray w (standard_plan p w) (decl k) (place k) (slot k) = record {
        array = (n, some);
        served = serves;
        word = is.word;
        apart = λ j q pinned same.
            let pin = pin-cases j q pinned in
            let low : (place k).bank < 2 = omega (arith, same, pin.bank, pin.low) in
            let behind : 1 ≤ (place k).block =
            by_bank (place k).bank (place k).block low
            (λ label same. array_behind_scalars p w k n no_decl no_place below some label same) in
            inl (omega (arith, behind, pin.block));
      } in
      subst (IsSoundByPin w (standard_plan p w) (decl k) (place k) (slot k))
      (sym (no_pin (slot k) (serves-within serves).0)) here
    where
      by_bank : (bank block : ℕ) → bank < 2 → ((label : Label) → bank ≡ scalar_bank label → 1 ≤ block) → 1 ≤ block
      by_bank bank block low behind =
          ⊎_elim (λ plain. behind Public plain) (λ other. behind Secret (omega (arith, low, other)))
          (cases_eq bank 0)

  served : (k : ℕ) → k < length p.decls
      → IsSoundByPin w (standard_plan p w) (decl k) (place k) (slot k) (pin_of_slot (standard_plan p w) (slot k))
  served k below = by (decl k).length refl where
    by : (l : Option ℕ) → (decl k).length ≡ l
        → IsSoundByPin w (standard_plan p w) (decl k) (place k) (slot k) (pin_of_slot (standard_plan p w) (slot k))
    by None none = scalar-served k below none
    by (Some n) some = array-served k n below some

  pub standard_sound_at : IsSoundPlan p w (standard_plan p w)
  standard_sound_at =
      let sound = places_sound p w limits fit in
      record {
        places = length-places p w;
        slots = length-slots (places_of p w) ∙ length-places p w;
        banks = (
          omega (arith, length-blocks p w),
          omega (arith, length-blocks p w, bank_count-le (places_of p w)),
        );
        blocks = λ b there.
            let within : b < bank_count (places_of p w) = omega (arith, there, length-blocks p w) in (
              subst (λ n. 1 ≤ n) (sym (get_or-blocks p w b 0 within)) (bank_some p w b limits within),
              sound.limits b there,
            );
        place = λ k below.
            let is = sound.place k below in
            record {
              label = bank_of_label p w k no_decl no_place below;
              bank = is.bank;
              words = is.words;
              word = is.word;
              inside = is.inside;
            };
        served = served;
        hidden = λ k below oblivious free.
            subst (λ (q : Place). 2 ≤ q.bank) (sym (get_or-places p w k no_decl no_place below))
            (oblivious_bank (2 ^ w) (take k (places_of p w)) (class_of p (decl k)) (words_of (decl k)) oblivious);
        apart = sound.apart;
        pins = λ slot pin pinned.
            let is = pin-cases slot pin pinned in
            let low : pin.bank < 2 = omega (arith, is.bank, is.low) in
            let within : pin.bank < bank_count (places_of p w) = omega (arith, low) in
            record {
              few = omega (arith, is.low);
              apart = λ six. absurd (omega (arith, six, is.low));
              bank = low;
              block = omega (
                arith,
                is.block,
                get_or-blocks p w pin.bank 0 within,
                bank_some p w pin.bank limits within,
              );
            };
        pins_apart = λ j k q r first second same_bank same_block.
            sym (pin-cases j q first).bank ∙ same_bank ∙ (pin-cases k r second).bank;
      }

-- the plan of each program with room for its variables
pub standard_sound : (p : Source) (w : ℕ)
    → IsWithinLimits p → Within 3 9 w → Fits p w → IsSoundPlan p w (standard_plan p w)
standard_sound p w limits log fit = standard_sound_at p w limits fit
