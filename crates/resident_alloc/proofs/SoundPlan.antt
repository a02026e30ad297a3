-- The plan of resident variables is sound for each program with room for them.
use Rattle.std.proofs.Common.{◌≡◌, ℕ, ◌*◌, ◌^◌, ◌<◌, ◌≤◌, true, false, length, get_or, Option, Some, None, inl, refl, sym, ap, ◌∙◌, subst, arith}
use Rattle.std.proofs.lemmas.Nat.{pow_pos}
use Rattle.gr_base.specs.Prelude.{Within}
use Rattle.src_tree.specs.Prelude.{IsWithinLimits, Source}
use Rattle.bank_alloc.specs.declared.classes.Class.TheVariants.{ObliviousArray}
use Rattle.bank_alloc.specs.declared.places.Place.{Place}
use Rattle.bank_alloc.specs.Prelude.{IsBankOf, AreApart, scalar_bank, class_of, has_secret_index, is_same}
use Rattle.bank_alloc.proofs.Apart.{scalar_bank-lt}
use Rattle.scratch_alloc.specs.declared.plans.Pin.{Pin}
use Rattle.scratch_alloc.specs.Prelude.{IsSoundPlan, IsSoundPlace, IsSoundByPin, Serves, ObliviousSlot, pin_of_slot, decl_at, place_at, slot_at}
use Rattle.resident_alloc.specs.declared.storages.Storage.{Storage}
use Rattle.resident_alloc.specs.declared.storages.Storage.TheVariants.{Scalar, Shared, Own, Cached, Oblivious}
use Rattle.resident_alloc.specs.Prelude.{wants_of, ResidentsFit, planned_for, pins_of, resident_banks, resident_plan}
use Rattle.resident_alloc.proofs.Served.{class_label, class_label-is, array_length, IsBeside}
use Rattle.resident_alloc.proofs.OwnPins.{pin_of, pinned}
use Rattle.resident_alloc.proofs.BlocksSome.{bank_some}
use Rattle.resident_alloc.proofs.PlannedApart.{item, words_at, length-places, length-slots, place-is, slot-is, length-blocks, blocks-is, known, item_inside, items_apart, served_as}
use Rattle.resident_alloc.proofs.SoundPins.{scalars_slot, own_pin_is, cached_pin, pin_sound, pins_differ, array_apart}

-- the label of a variable, by its class
label_at : (p : Source) (k : ℕ) → class_label (class_of p (decl_at p k)) ≡ (decl_at p k).label
label_at p k =
    class_label-is (decl_at p k).label (decl_at p k).length (has_secret_index p (decl_at p k).name)

module _ (p : Source) (w : ℕ) (limits : IsWithinLimits p) (room : ResidentsFit p w) where
  item_placed : (k : ℕ) → k < length p.decls
      → IsSoundPlace w (resident_plan p w) (decl_at p k) (item p w k).place
  item_placed k within =
      let place = (known p w limits room k within).placed in
      let banks = place.banks in
      let inside = item_inside p w limits room k within in
      let blocks = ap (λ b. b * 2 ^ w) (blocks-is p w (item p w k).place.bank banks) in
      record {
        label = subst (λ l. IsBankOf l (item p w k).place.bank) (label_at p k) place.label;
        bank = omega (arith, banks, length-blocks p w);
        words = place.words;
        word = place.word;
        inside = omega (arith, inside, blocks);
      }

  beside : (k : ℕ) → k < length p.decls
      → IsBeside (2 ^ w) (class_of p (decl_at p k)) (words_at p k) (item p w k).place (item p w k).slot
      → IsSoundByPin w (resident_plan p w) (decl_at p k) (item p w k).place (item p w k).slot
      (pin_of_slot (resident_plan p w) (item p w k).slot)
  beside k within h =
      let bank = h.bank in
      let slot = h.slot_is in
      let words = (known p w limits room k within).placed.words in
      let inside = h.inside in
      let low : (item p w k).slot < 2 =
      omega (arith, bank, slot, scalar_bank-lt (class_label (class_of p (decl_at p k)))) in
      subst
      (IsSoundByPin w (resident_plan p w) (decl_at p k) (item p w k).place (item p w k).slot)
      (sym (scalars_slot p w (item p w k).slot low))
      (record {
        bank = bank ∙ ap scalar_bank (label_at p k);
        pinned_bank = slot;
        pinned_block = sym h.block;
        inside = inl (omega (arith, inside, words));
      })

  alone_sound : (k : ℕ) → k < length p.decls → (item p w k).storage ≡ Own
      → IsSoundByPin w (resident_plan p w) (decl_at p k) (item p w k).place (item p w k).slot
      (pin_of_slot (resident_plan p w) (item p w k).slot)
  alone_sound k within own =
      let h = served_as p w limits room k Own within own in
      let words = (known p w limits room k within).placed.words in
      let word = h.word in
      let short = h.short in
      subst
      (IsSoundByPin w (resident_plan p w) (decl_at p k) (item p w k).place (item p w k).slot)
      (sym (own_pin_is p w limits room k within own))
      (record {
        bank = h.bank ∙ ap scalar_bank (label_at p k);
        pinned_bank = refl;
        pinned_block = refl;
        inside = inl (omega (arith, words, word, short));
      })

  cached_sound : (k : ℕ) → k < length p.decls → (item p w k).storage ≡ Cached
      → IsSoundByPin w (resident_plan p w) (decl_at p k) (item p w k).place (item p w k).slot
      (pin_of_slot (resident_plan p w) (item p w k).slot)
  cached_sound k within is =
      let h = served_as p w limits room k Cached within is in
      subst
      (IsSoundByPin w (resident_plan p w) (decl_at p k) (item p w k).place (item p w k).slot)
      (sym (cached_pin p w limits room k within is))
      (record {
        array = array_length (decl_at p k).label (decl_at p k).length (has_secret_index p (decl_at p k).name) h.array;
        served = h.serves;
        word = h.word;
        apart = λ slot q here same.
            array_apart p w limits room k within (λ own. let e : Cached ≡ Own = sym is ∙ own in cc) h.word
            (λ low. h.block) slot q (pinned (planned_for p w) slot q here) same;
      })

  oblivious_sound : (k : ℕ) → k < length p.decls → (item p w k).storage ≡ Oblivious
      → IsSoundByPin w (resident_plan p w) (decl_at p k) (item p w k).place (item p w k).slot
      (pin_of_slot (resident_plan p w) (item p w k).slot)
  oblivious_sound k within is =
      let h = served_as p w limits room k Oblivious within is in
      let past = h.bank in
      let none : pin_of_slot (resident_plan p w) (item p w k).slot ≡ None =
      ap (λ s. get_or (pins_of (planned_for p w)) s None) h.slot_is in
      subst
      (IsSoundByPin w (resident_plan p w) (decl_at p k) (item p w k).place (item p w k).slot)
      (sym none)
      (record {
        array = array_length (decl_at p k).label (decl_at p k).length (has_secret_index p (decl_at p k).name) h.array;
        served = subst (Serves (item p w k).place.bank) (sym h.slot_is) (ObliviousSlot (item p w k).place.bank h.bank);
        word = h.word;
        apart = λ slot q here same.
            array_apart p w limits room k within (λ own. let e : Oblivious ≡ Own = sym is ∙ own in cc) h.word
            (λ low. absurd (omega (arith, low, past))) slot q (pinned (planned_for p w) slot q here) same;
      })

  item_served : (k : ℕ) → k < length p.decls
      → IsSoundByPin w (resident_plan p w) (decl_at p k) (item p w k).place (item p w k).slot
      (pin_of_slot (resident_plan p w) (item p w k).slot)
  item_served k within = by (item p w k).storage refl where
    by : (s : Storage) → (item p w k).storage ≡ s
        → IsSoundByPin w (resident_plan p w) (decl_at p k) (item p w k).place (item p w k).slot
        (pin_of_slot (resident_plan p w) (item p w k).slot)
    by Scalar is = beside k within (served_as p w limits room k Scalar within is)
    by Shared is = beside k within (served_as p w limits room k Shared within is)
    by Own is = alone_sound k within is
    by Cached is = cached_sound k within is
    by Oblivious is = oblivious_sound k within is

  beside_pinned : (k : ℕ)
      → IsBeside (2 ^ w) (class_of p (decl_at p k)) (words_at p k) (item p w k).place (item p w k).slot
      → pin_of_slot (resident_plan p w) (item p w k).slot ≡ None → ⊥
  beside_pinned k h none =
      let bank = h.bank in
      let slot = h.slot_is in
      let low : (item p w k).slot < 2 =
      omega (arith, bank, slot, scalar_bank-lt (class_label (class_of p (decl_at p k)))) in
      let e : ◌≡◌ {A = Option Pin} (Some (record { bank = (item p w k).slot; block = 0 })) None =
      sym (scalars_slot p w (item p w k).slot low) ∙ none in
      cc

  -- a secret array with a secret index is resident, or in an oblivious bank
  item_hidden : (k : ℕ) → k < length p.decls → class_of p (decl_at p k) ≡ ObliviousArray
      → pin_of_slot (resident_plan p w) (item p w k).slot ≡ None → 2 ≤ (item p w k).place.bank
  item_hidden k within class none = by (item p w k).storage refl where
    by : (s : Storage) → (item p w k).storage ≡ s → 2 ≤ (item p w k).place.bank
    by Scalar is = absurd (beside_pinned k (served_as p w limits room k Scalar within is) none)
    by Shared is = absurd (beside_pinned k (served_as p w limits room k Shared within is) none)
    by Own is =
        absurd (let e : ◌≡◌ {A = Option Pin} (Some (pin_of (item p w k))) None =
        sym (own_pin_is p w limits room k within is) ∙ none in cc)
    by Cached is =
        let h = served_as p w limits room k Cached within is in
        absurd (let e : true ≡ false = sym (ap (is_same ObliviousArray) class) ∙ h.visible in cc)
    by Oblivious is = (served_as p w limits room k Oblivious within is).bank

-- the whole plan
pub resident_sound : (p : Source) (w : ℕ) → IsWithinLimits p → Within 3 9 w → ResidentsFit p w
    → IsSoundPlan p w (resident_plan p w)
resident_sound p w limits log room = record {
  places = length-places p w;
  slots = length-slots p w;
  banks = (omega (arith, length-blocks p w), omega (arith, length-blocks p w));
  blocks = λ b within.
      let here : b < resident_banks (2 ^ w) (wants_of p) = omega (arith, within, length-blocks p w) in
      let some = bank_some p (2 ^ w) b (pow_pos w) limits.lengths here in
      let most = room.banks b here in
      (omega (arith, blocks-is p w b here, some), omega (arith, blocks-is p w b here, most));
  place = λ k within.
      subst (IsSoundPlace w (resident_plan p w) (decl_at p k)) (sym (place-is p w k within))
      (item_placed p w limits room k within);
  served = λ k within.
      subst (λ q. IsSoundByPin w (resident_plan p w) (decl_at p k) q (slot_at (resident_plan p w) k)
      (pin_of_slot (resident_plan p w) (slot_at (resident_plan p w) k))) (sym (place-is p w k within))
      (subst (λ s. IsSoundByPin w (resident_plan p w) (decl_at p k) (item p w k).place s
      (pin_of_slot (resident_plan p w) s)) (sym (slot-is p w k within)) (item_served p w limits room k within));
  hidden = λ k within class none.
      let place = ap (λ (q : Place). q.bank) (place-is p w k within) in
      let slot = ap (pin_of_slot (resident_plan p w)) (slot-is p w k within) in
      let past = item_hidden p w limits room k within class (sym slot ∙ none) in
      omega (arith, place, past);
  apart = λ i j less within.
      subst (λ q. AreApart (2 ^ w) q (place_at (resident_plan p w) j))
      (sym (place-is p w i (omega (arith, less, within))))
      (subst (AreApart (2 ^ w) (item p w i).place) (sym (place-is p w j within))
      (items_apart p w limits room i j less within));
  pins = λ slot q here. pin_sound p w limits room slot q (pinned (planned_for p w) slot q here);
  pins_apart = λ j k q r first second.
      pins_differ p w limits room j k q r (pinned (planned_for p w) j q first) (pinned (planned_for p w) k r second);
}
