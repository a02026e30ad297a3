-- The slots that hold one block for the whole run, and those that hold none.
use Rattle.std.proofs.Common.{◌≡◌, ℕ, zero, suc, ◌*◌, ◌^◌, ◌<◌, ◌≤◌, length, get_or, Option, Some, None, ◌⊎◌, inl, inr, ⊎_elim, refl, sym, ap, ◌∙◌, arith}
use Rattle.std.proofs.Math.Nat.{mul-le-mul_left}
use Rattle.std.proofs.lemmas.Bool.{cases_eq, cases_lt}
use Rattle.std.proofs.lemmas.Nat.{pow_pos}
use Rattle.src_tree.specs.Prelude.{IsWithinLimits, Source}
use Rattle.bank_alloc.specs.Prelude.{end_of_place, class_of}
use Rattle.bank_alloc.proofs.Apart.{scalar_bank-lt}
use Rattle.scratch_alloc.specs.declared.plans.Pin.{Pin}
use Rattle.scratch_alloc.specs.Prelude.{IsSoundPin, decl_at, no_decl}
use Rattle.resident_alloc.specs.declared.storages.Storage.{Storage}
use Rattle.resident_alloc.specs.declared.storages.Storage.TheVariants.{Own, Cached}
use Rattle.resident_alloc.specs.Prelude.{wants_of, ResidentsFit, planned_for, own_pin, pins_of, resident_banks, resident_blocks, resident_plan}
use Rattle.resident_alloc.proofs.Served.{IsAlone, IsCached, class_label}
use Rattle.resident_alloc.proofs.Numbered.{IsNumbered, numbered_slot}
use Rattle.resident_alloc.proofs.OwnPins.{pin_of, OwnsSlot, owns_slot, own_pin_some, IsPinned, ByScalars, ByArray, pin_by_array}
use Rattle.resident_alloc.proofs.PlannedEach.{words_some}
use Rattle.resident_alloc.proofs.BlocksSome.{bank_some}
use Rattle.resident_alloc.proofs.PlannedApart.{no_planned, item, words_at, wanted, wants_to, length-planned, blocks-is, known, item_inside, items_apart_any, served_as, one_array}

-- fewer blocks have fewer words
less_blocks : (size a b : ℕ) → a * size < b * size → a < b
less_blocks size a b less =
    ⊎_elim (λ h. h) (λ h. absurd (let e : size * b ≤ size * a = mul-le-mul_left size h in omega (arith, e, less)))
    (cases_lt a b)

-- the slot of an array with a number is one of 2 to 5 and 7
slots_of_number : (p : Source) (w k : ℕ) (s : Storage) (slot : ℕ)
    → IsNumbered (2 ^ w) (wants_of p) (wants_to p k) (wanted p k) s slot
    → (2 ≤ slot) × (slot < 8) × (slot ≡ 6 → ⊥)
slots_of_number p w k s slot h =
    let facts = numbered_slot _ _ s h.family _ h.number in
    let is = h.slot_is in
    (omega (arith, is, facts.0), omega (arith, is, facts.1), λ six. facts.2 (sym is ∙ six))

-- slots 0 and 1 hold the blocks of the scalars
pub scalars_slot : (p : Source) (w slot : ℕ) → slot < 2
    → get_or (pins_of (planned_for p w)) slot None ≡ Some (record { bank = slot; block = 0 })
scalars_slot p w zero low = refl
scalars_slot p w (suc zero) low = refl
scalars_slot p w (suc (suc n)) low = absurd (omega (arith, low))

module _ (p : Source) (w : ℕ) (limits : IsWithinLimits p) (room : ResidentsFit p w) where
  -- the array that has a slot to itself
  pub owner : (slot : ℕ) (q : Pin) (o : OwnsSlot (planned_for p w) slot q)
      → IsAlone (2 ^ w) (wants_of p) (wants_to p o.at) (class_of p (decl_at p o.at)) (words_at p o.at)
      (item p w o.at).place (item p w o.at).slot
  owner slot q o =
      let within = o.within in
      served_as p w limits room o.at Own (omega (arith, within, length-planned p w)) (o.own no_planned)

  pub owner_within : (slot : ℕ) (q : Pin) (o : OwnsSlot (planned_for p w) slot q) → o.at < length p.decls
  owner_within slot q o = let within = o.within in omega (arith, within, length-planned p w)

  owner_bank : (slot : ℕ) (q : Pin) (o : OwnsSlot (planned_for p w) slot q) → (item p w o.at).place.bank ≡ q.bank
  owner_bank slot q o = ap (λ (x : Pin). x.bank) (o.pin no_planned)

  owner_block : (slot : ℕ) (q : Pin) (o : OwnsSlot (planned_for p w) slot q) → (item p w o.at).place.block ≡ q.block
  owner_block slot q o = ap (λ (x : Pin). x.block) (o.pin no_planned)

  -- the slot of an array with a number holds a block for the whole run only if some array has it to itself
  numbered_pin : (k : ℕ) (s : Storage) → IsNumbered (2 ^ w) (wants_of p) (wants_to p k) (wanted p k) s (item p w k).slot
      → get_or (pins_of (planned_for p w)) (item p w k).slot None ≡ own_pin (planned_for p w) (item p w k).slot
  numbered_pin k s h =
      let slots = slots_of_number p w k s (item p w k).slot h in
      pin_by_array (planned_for p w) (item p w k).slot slots.0 slots.1 slots.2

  -- and that array is the one with the number
  owner_is : (k : ℕ) (s : Storage) → k < length p.decls
      → IsNumbered (2 ^ w) (wants_of p) (wants_to p k) (wanted p k) s (item p w k).slot
      → (q : Pin) (o : OwnsSlot (planned_for p w) (item p w k).slot q) → o.at ≡ k
  owner_is k s within h q o =
      let here = owner (item p w k).slot q o in
      one_array p w limits room o.at k s (owner_within (item p w k).slot q o) within here.numbered h
      (o.slot_is no_planned)

  -- an array's own slot holds its block
  pub own_pin_is : (k : ℕ) → k < length p.decls → (item p w k).storage ≡ Own
      → get_or (pins_of (planned_for p w)) (item p w k).slot None ≡ Some (pin_of (item p w k))
  own_pin_is k within own = numbered_pin k Own alone.numbered ∙ by (own_pin (planned_for p w) (item p w k).slot) refl where
    alone : IsAlone (2 ^ w) (wants_of p) (wants_to p k) (class_of p (decl_at p k)) (words_at p k) (item p w k).place
        (item p w k).slot
    alone = served_as p w limits room k Own within own

    by : (o : Option Pin) → own_pin (planned_for p w) (item p w k).slot ≡ o
        → own_pin (planned_for p w) (item p w k).slot ≡ Some (pin_of (item p w k))
    by None none =
        absurd (own_pin_some (planned_for p w) k no_planned (omega (arith, within, length-planned p w)) own none)
    by (Some q) some =
        let o = owns_slot (planned_for p w) (item p w k).slot q some in
        let same = owner_is k Own within alone.numbered q o in
        some ∙ ap (λ (x : Pin). Some x) (sym (o.pin no_planned) ∙ ap (λ m. pin_of (item p w m)) same)

  -- the slot of an array whose blocks are loaded holds none for the whole run
  pub cached_pin : (k : ℕ) → k < length p.decls → (item p w k).storage ≡ Cached
      → get_or (pins_of (planned_for p w)) (item p w k).slot None ≡ None
  cached_pin k within is = numbered_pin k Cached held.numbered ∙ by (own_pin (planned_for p w) (item p w k).slot) refl where
    held : IsCached (2 ^ w) (wants_of p) (wants_to p k) (class_of p (decl_at p k)) (words_at p k) (item p w k).place
        (item p w k).slot
    held = served_as p w limits room k Cached within is

    by : (o : Option Pin) → own_pin (planned_for p w) (item p w k).slot ≡ o
        → own_pin (planned_for p w) (item p w k).slot ≡ None
    by None none = none
    by (Some q) some =
        let o = owns_slot (planned_for p w) (item p w k).slot q some in
        let same = owner_is k Cached within held.numbered q o in
        let e : Own ≡ Cached = sym (o.own no_planned) ∙ ap (λ m. (item p w m).storage) same ∙ is in
        absurd cc

  -- each such block is in its bank
  pub pin_sound : (slot : ℕ) (q : Pin) → IsPinned (planned_for p w) slot q → IsSoundPin (resident_plan p w) slot q
  pin_sound slot q (ByScalars bank low) =
      let here : bank < resident_banks (2 ^ w) (wants_of p) = omega (arith, low) in
      record {
        few = omega (arith, low);
        apart = λ six. omega (arith, low, six);
        bank = low;
        block = omega (
          arith,
          blocks-is p w bank here,
          bank_some p (2 ^ w) bank (pow_pos w) limits.lengths here,
        );
      }
  pin_sound slot q (ByArray s r o) =
      let alone = owner slot q o in
      let within = owner_within slot q o in
      let v = item p w o.at in
      let place = (known p w limits room o.at within).placed in
      let slots = slots_of_number p w o.at Own v.slot alone.numbered in
      let slot_same = o.slot_is no_planned in
      let bank = owner_bank slot q o in
      let block = owner_block slot q o in
      let banks = place.banks in
      let here : q.bank < resident_banks (2 ^ w) (wants_of p) = omega (arith, bank, banks) in
      let low = alone.bank in
      let words = place.words in
      let inside = item_inside p w limits room o.at within in
      let some = words_some p o.at no_decl limits within in
      let less : v.place.block * 2 ^ w < resident_blocks (2 ^ w) (wants_of p) v.place.bank * 2 ^ w =
      omega (arith, inside, words, some) in
      let fewer = less_blocks (2 ^ w) v.place.block (resident_blocks (2 ^ w) (wants_of p) v.place.bank) less in
      let count = ap (resident_blocks (2 ^ w) (wants_of p)) bank in
      record {
        few = omega (arith, slots.1, slot_same);
        apart = λ six. slots.2 (slot_same ∙ six);
        bank = omega (arith, bank, low, scalar_bank-lt (class_label (class_of p (decl_at p o.at))));
        block = omega (arith, blocks-is p w q.bank here, fewer, count, block);
      }

  -- one block is in one slot only
  pub pins_differ : (j k : ℕ) (q r : Pin) → IsPinned (planned_for p w) j q → IsPinned (planned_for p w) k r
      → q.bank ≡ r.bank → q.block ≡ r.block → j ≡ k
  pins_differ j k q r (ByScalars a low) (ByScalars b high) bank block = bank
  pins_differ j k q r (ByScalars a low) (ByArray s t o) bank block =
      let alone = owner k r o in
      let some = alone.block in
      absurd (omega (arith, some, owner_block k r o, block))
  pins_differ j k q r (ByArray s t o) (ByScalars b low) bank block =
      let alone = owner j q o in
      let some = alone.block in
      absurd (omega (arith, some, owner_block j q o, block))
  pins_differ j k q r (ByArray s t o) (ByArray x y n) bank block =
      ⊎_elim (λ same. sym (o.slot_is no_planned) ∙ ap (λ m. (item p w m).slot) same ∙ n.slot_is no_planned) differ
      (cases_eq o.at n.at) where
        here : o.at < length p.decls
        here = owner_within j q o

        there : n.at < length p.decls
        there = owner_within k r n

        banks : (item p w o.at).place.bank ≡ (item p w n.at).place.bank
        banks = owner_bank j q o ∙ bank ∙ sym (owner_bank k r n)

        blocks : (item p w o.at).place.block ≡ (item p w n.at).place.block
        blocks = owner_block j q o ∙ block ∙ sym (owner_block k r n)

        differ : (o.at ≡ n.at → ⊥) → j ≡ k
        differ other =
            let first = owner j q o in
            let second = owner k r n in
            let words = (known p w limits room o.at here).placed.words in
            let more = (known p w limits room n.at there).placed.words in
            let some = words_some p o.at no_decl limits here in
            let others = words_some p n.at no_decl limits there in
            let same : (item p w o.at).place.block * 2 ^ w ≡ (item p w n.at).place.block * 2 ^ w =
            ap (λ b. b * 2 ^ w) blocks in
            let word = first.word in
            let next = second.word in
            absurd (⊎_elim (λ h. omega (arith, h, words, some, same, word, next))
            (λ h. omega (arith, h, more, others, same, word, next))
            (items_apart_any p w limits room o.at n.at other here there banks))

  -- an array that has no slot to itself is apart from each such block
  pub array_apart : (k : ℕ) → k < length p.decls → ((item p w k).storage ≡ Own → ⊥) → (item p w k).place.word ≡ 0
      → ((item p w k).place.bank < 2 → 1 ≤ (item p w k).place.block)
      → (slot : ℕ) (q : Pin) → IsPinned (planned_for p w) slot q → q.bank ≡ (item p w k).place.bank
      → (q.block < (item p w k).place.block) ⊎ (end_of_place (2 ^ w) (item p w k).place ≤ q.block * 2 ^ w)
  array_apart k within other word behind slot q (ByScalars bank low) same =
      inl (behind (omega (arith, low, same)))
  array_apart k within other word behind slot q (ByArray s t o) same =
      ⊎_elim (λ h. absurd (other (ap (λ m. (item p w m).storage) (sym h) ∙ o.own no_planned))) by (cases_eq o.at k) where
        here : o.at < length p.decls
        here = owner_within slot q o

        by : (o.at ≡ k → ⊥)
            → (q.block < (item p w k).place.block) ⊎ (end_of_place (2 ^ w) (item p w k).place ≤ q.block * 2 ^ w)
        by differ =
            let alone = owner slot q o in
            let words = (known p w limits room o.at here).placed.words in
            let some = words_some p o.at no_decl limits here in
            let block : (item p w o.at).place.block * 2 ^ w ≡ q.block * 2 ^ w =
            ap (λ b. b * 2 ^ w) (owner_block slot q o) in
            let start = alone.word in
            ⊎_elim
            (λ h. inl (less_blocks (2 ^ w) q.block (item p w k).place.block
            (omega (arith, h, words, some, block, start, word))))
            (λ h. inr (omega (arith, h, block, start)))
            (items_apart_any p w limits room o.at k differ here within (owner_bank slot q o ∙ same))
