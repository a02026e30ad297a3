-- The plan with spread arrays is sound for each program with room for its variables.
use Rattle.std.proofs.Common.{◌≡◌, ◌≢◌, ℕ, zero, suc, ◌+◌, ◌-◌, ◌*◌, ◌^◌, ◌<◌, ◌≤◌, Bool, true, false, List, [], ◌∷◌, length, take, get_or, set, Option, Some, None, ◌⊎◌, inl, inr, refl, sym, ap, ◌∙◌, subst, ⊎_elim, arith}
use Rattle.std.specs.Prelude.{is_none, nat_le, nat_lt, min}
use Rattle.std.specs.List.{range_with_len}
use Rattle.std.proofs.lemmas.Bool.{and_parts, cases_eq, cases_lt, cond_both, eqb-true, leb-true, ltb-true}
use Rattle.std.proofs.Math.Nat.{div-lt_iff_lt-mul}
use Rattle.std.proofs.lemmas.Nat.{pow_pos}
use Rattle.std.proofs.lemmas.List.{get_or-set_same, get_or-set_other, get_or-take, length-set, length-take, length-take-le}
use Rattle.gr_word.specs.declared.variables.Label.TheVariants.{Secret}
use Rattle.lt_isa.specs.Prelude.{most_blocks}
use Rattle.src_tree.specs.Prelude.{Source}
use Rattle.bank_alloc.specs.declared.places.Place.{Place}
use Rattle.bank_alloc.specs.Prelude.{start_of_place, end_of_place, blocks_for}
use Rattle.bank_alloc.proofs.EachPlace.{blocks_for-hold, blocks_for-some}
use Rattle.scratch_alloc.specs.declared.plans.Pin.{Pin}
use Rattle.scratch_alloc.specs.Prelude.{Plan, IsSoundPlan, IsSoundByPin, IsSoundArray, pin_of_slot, decl_at, place_at, slot_at, no_place}
use Rattle.spread_alloc.specs.Prelude.{free_slots, blocks_in, may_move, is_long, may_spread, place_behind, spread_place, spread_blocks, spread_over, spread_one, spread_each, spread_turn, last_bank, without_empty_banks, spread_plan}
use Rattle.spread_alloc.proofs.Slots.{FreeFrom, free_slots-are, first-free, length-pinned}
use Rattle.spread_alloc.proofs.SpreadArrays.{IsTarget, secret_of_bank, spread_sound}

-- a plan that is sound and has a pin or none for each of the eight slots
pub record IsSound (p : Source) (w : ℕ) (plan : Plan) : Type 0 where
  pub sound : IsSoundPlan p w plan
  pub slots : length plan.pins ≡ 8

-- what is known of a variable that is spread
record Spreads (w : ℕ) (oblivious : Bool) (plan : Plan) (k : ℕ) : Type 0 where
  pub moves : may_move oblivious (place_at plan k) ≡ true
  pub long : 2 ^ w < (place_at plan k).length
  pub few : (place_at plan k).length ≤ 5 * 2 ^ w
  pub unpinned : pin_of_slot plan (slot_at plan k) ≡ None
  pub free : blocks_for (2 ^ w) (place_at plan k).length ≤ length (free_slots plan.pins plan.slots k)
  pub room : blocks_in plan 1 + blocks_for (2 ^ w) (place_at plan k).length ≤ most_blocks 1

none_of : (o : Option Pin) → is_none o ≡ true → o ≡ None
none_of None is = refl
none_of (Some q) is = absurd (let e : false ≡ true = is in cc)

spreads : (w : ℕ) (oblivious : Bool) (plan : Plan) (k : ℕ) → may_spread (2 ^ w) oblivious plan k ≡ true
    → Spreads w oblivious plan k
spreads w oblivious plan k is =
    let q = place_at plan k in
    let first = and_parts (may_move oblivious q) _ is in
    let second = and_parts (is_long (2 ^ w) q) _ first.1 in
    let long = and_parts (nat_lt (2 ^ w) q.length) (nat_le q.length (5 * 2 ^ w)) second.0 in
    let third = and_parts (is_none (pin_of_slot plan (slot_at plan k))) _ second.1 in
    let last = and_parts (nat_le (blocks_for (2 ^ w) q.length) (length (free_slots plan.pins plan.slots k)))
    (nat_le (blocks_in plan 1 + blocks_for (2 ^ w) q.length) (most_blocks 1)) third.1 in
    record {
      moves = first.0;
      long = ltb-true (2 ^ w) q.length long.0;
      few = leb-true q.length (5 * 2 ^ w) long.1;
      unpinned = none_of (pin_of_slot plan (slot_at plan k)) third.0;
      free = leb-true (blocks_for (2 ^ w) q.length) (length (free_slots plan.pins plan.slots k)) last.0;
      room = leb-true (blocks_in plan 1 + blocks_for (2 ^ w) q.length) (most_blocks 1) last.1;
    }

-- a block before the last one has words
block_needed : (size words j : ℕ) → 0 < size → 0 < words → j < blocks_for size words → j * size < words
block_needed size words j some word less =
    ⊎_elim (λ h. h)
    (λ past.
    let e : blocks_for size words < j + 1 =
    (div-lt_iff_lt-mul {k = size} {x = words + (size - 1)} {y = j + 1} some).1 (omega (arith, past, some, word)) in
    absurd (omega (arith, e, less)))
    (cases_lt (j * size) words)

module _ (p : Source) (w : ℕ) (plan : Plan) (is : IsSound p w plan) (k : ℕ) (there : k < length p.decls)
    (oblivious : Bool) (h : Spreads w oblivious plan k) where
  abbrev old : Place
  old = place_at plan k

  abbrev blocks : ℕ
  blocks = blocks_for (2 ^ w) old.length

  array : IsSoundArray w plan (decl_at p k) old (slot_at plan k)
  array =
      subst (IsSoundByPin w plan (decl_at p k) old (slot_at plan k)) h.unpinned (is.sound.served k there)

  past_plain : (b : Bool) → may_move b old ≡ true → 1 ≤ old.bank
  past_plain true moves = let e = leb-true 2 old.bank moves in omega (arith, e)
  past_plain false moves = let e = eqb-true old.bank 1 moves in omega (arith, e)

  secret : (decl_at p k).label ≡ Secret
  secret = secret_of_bank (decl_at p k).label old.bank (is.sound.place k there).label (past_plain oblivious h.moves)

  -- the blocks of encrypted memory end before those that follow
  ended : (i : ℕ) → i < length plan.places → (place_at plan i).bank ≡ 1
      → end_of_place (2 ^ w) (place_at plan i) ≤ blocks_in plan 1 * 2 ^ w
  ended i within bank =
      let place = is.sound.place i (omega (arith, within, is.sound.places)) in
      let inside = place.inside in
      let same = ap (λ b. get_or plan.blocks b 0 * 2 ^ w) bank in
      omega (arith, inside, same)

  two : 2 ≤ length plan.blocks
  two = is.sound.banks.0

  moved : IsTarget w plan k (place_behind (blocks_in plan 1) old) (set plan.blocks 1 (blocks_in plan 1 + blocks)) blocks
  moved =
      let size = pow_pos w in
      let long = h.long in
      record {
        bank = refl;
        word = refl;
        words = refl;
        few = h.few;
        some = blocks_for-some (2 ^ w) old.length size (omega (arith, long));
        covers = blocks_for-hold (2 ^ w) old.length size;
        needs = λ j less. block_needed (2 ^ w) old.length j size (omega (arith, long)) less;
        count = length-set plan.blocks 1 (blocks_in plan 1 + blocks);
        grows = λ b.
            ⊎_elim
            (λ one. let e = ap (λ m. get_or (set plan.blocks 1 (blocks_in plan 1 + blocks)) m 0) one in
            let f = get_or-set_same plan.blocks 1 (blocks_in plan 1 + blocks) 0 two in
            let g = ap (λ m. get_or plan.blocks m 0) one in omega (arith, e, f, g))
            (λ other. omega (arith, get_or-set_other plan.blocks 1 b (blocks_in plan 1 + blocks) 0 other))
            (cases_eq b 1);
        limits = λ b within.
            ⊎_elim
            (λ one. let e = ap (λ m. get_or (set plan.blocks 1 (blocks_in plan 1 + blocks)) m 0) one in
            let f = get_or-set_same plan.blocks 1 (blocks_in plan 1 + blocks) 0 two in
            let g = ap most_blocks one in
            let room = h.room in omega (arith, e, f, g, room))
            (λ other.
            let e = get_or-set_other plan.blocks 1 b (blocks_in plan 1 + blocks) 0 other in
            let most = (is.sound.blocks b within).1 in omega (arith, e, most))
            (cases_eq b 1);
        inside =
            let e = ap (λ m. m * 2 ^ w) (get_or-set_same plan.blocks 1 (blocks_in plan 1 + blocks) 0 two) in
            let hold = blocks_for-hold (2 ^ w) old.length size in
            omega (arith, e, hold);
        apart = λ i within other bank. inl (let e = ended i within bank in omega (arith, e));
        unpinned = λ t r pinned bank.
            let pin = is.sound.pins t r pinned in
            let block = pin.block in
            let same = ap (λ b. get_or plan.blocks b 0) bank in
            inl (omega (arith, block, same));
      }

  stays : old.bank ≡ 1 → IsTarget w plan k old plan.blocks blocks
  stays bank =
      let size = pow_pos w in
      let long = h.long in
      record {
        bank = bank;
        word = array.word;
        words = refl;
        few = h.few;
        some = blocks_for-some (2 ^ w) old.length size (omega (arith, long));
        covers = blocks_for-hold (2 ^ w) old.length size;
        needs = λ j less. block_needed (2 ^ w) old.length j size (omega (arith, long)) less;
        count = refl;
        grows = λ b. omega arith;
        limits = λ b within. (is.sound.blocks b within).1;
        inside = ended k (omega (arith, there, is.sound.places)) bank;
        apart = λ i within other same.
            let here : i < length p.decls = omega (arith, within, is.sound.places) in
            ⊎_elim (λ more. by i other same here more) (λ h. absurd (other h)) (less_more i);
        unpinned = λ t r pinned same. array.apart t r pinned (same ∙ sym bank);
      }
    where
      less_more : (i : ℕ) → ((i < k) ⊎ (k < i)) ⊎ (i ≡ k)
      less_more i =
          ⊎_elim (λ less. inl (inl less))
          (λ past. ⊎_elim (λ same. inr same) (λ other. inl (inr (omega (arith, past, other)))) (cases_eq i k))
          (cases_lt i k)

      by : (i : ℕ) → i ≢ k → (place_at plan i).bank ≡ 1 → i < length p.decls → (i < k) ⊎ (k < i)
          → (end_of_place (2 ^ w) (place_at plan i) ≤ start_of_place (2 ^ w) old)
          ⊎ (end_of_place (2 ^ w) old ≤ start_of_place (2 ^ w) (place_at plan i))
      by i other same here (inl less) = is.sound.apart i k less there (same ∙ sym bank)
      by i other same here (inr more) =
          ⊎_elim (λ x. inr x) (λ x. inl x) (is.sound.apart k i more here (bank ∙ sym same))

  abbrev chosen : List ℕ
  chosen = take blocks (free_slots plan.pins plan.slots k)

  chosen-length : length chosen ≡ blocks
  chosen-length = length-take-le blocks (free_slots plan.pins plan.slots k) h.free

  chosen-free : FreeFrom plan k 2 chosen
  chosen-free = first-free plan k 2 blocks (free_slots plan.pins plan.slots k) (free_slots-are plan k)

  target : (b : Bool) → may_move b old ≡ true
      → IsTarget w plan k (spread_place b plan old) (spread_blocks b plan blocks) blocks
  target true moves = moved
  target false moves = stays (eqb-true old.bank 1 moves)

  over_sound : IsSound p w (spread_over (2 ^ w) oblivious plan k chosen)
  over_sound = record {
    sound =
        spread_sound p w plan is.sound is.slots k there secret (spread_place oblivious plan old)
        (spread_blocks oblivious plan blocks) blocks (target oblivious h.moves) chosen chosen-length chosen-free;
    slots = length-pinned plan.pins chosen 1 (spread_place oblivious plan old).block ∙ is.slots;
  }

one_sound : (p : Source) (w : ℕ) (oblivious : Bool) (plan : Plan) (k : ℕ) → k < length p.decls → IsSound p w plan
    → IsSound p w (spread_one (2 ^ w) oblivious plan k)
one_sound p w oblivious plan k there is =
    cond_both (may_spread (2 ^ w) oblivious plan k)
    (spread_over (2 ^ w) oblivious plan k
    (take (blocks_for (2 ^ w) (place_at plan k).length) (free_slots plan.pins plan.slots k)))
    plan (IsSound p w)
    (λ yes. over_sound p w plan is k there oblivious (spreads w oblivious plan k yes))
    (λ no. is)

each_sound : (p : Source) (w : ℕ) (oblivious : Bool) (plan : Plan) (k n : ℕ) → k + n ≤ length p.decls
    → IsSound p w plan → IsSound p w (spread_each (2 ^ w) oblivious plan (range_with_len k n))
each_sound p w oblivious plan k zero within is = is
each_sound p w oblivious plan k (suc n) within is =
    each_sound p w oblivious (spread_one (2 ^ w) oblivious plan k) (k + 1) n (omega (arith, within))
    (one_sound p w oblivious plan k (omega (arith, within)) is)

turn_sound : (p : Source) (w : ℕ) (oblivious : Bool) (plan : Plan) → IsSound p w plan
    → IsSound p w (spread_turn (2 ^ w) oblivious plan)
turn_sound p w oblivious plan is =
    each_sound p w oblivious plan 0 (length plan.places) (let e = is.sound.places in omega (arith, e)) is

-- no variable is in a bank after the last one that has a variable
last_least : (places : List Place) (i : ℕ) (d : Place) → i < length places → (get_or places i d).bank ≤ last_bank places
last_least [] i d within = absurd (omega (arith, within))
last_least (q ∷ places) zero d within = omega arith
last_least (q ∷ places) (suc i) d within =
    let rest = last_least places i d (omega (arith, within)) in omega (arith, rest)

pub some_last : (places : List Place) → 1 ≤ last_bank places
some_last [] = omega arith
some_last (q ∷ places) = let rest = some_last places in omega (arith, rest)

module _ (p : Source) (w : ℕ) (plan : Plan) (is : IsSoundPlan p w plan) where
  abbrev kept : Plan
  kept = without_empty_banks plan

  kept-length : length kept.blocks ≡ min (last_bank plan.places + 1) (length plan.blocks)
  kept-length = length-take (last_bank plan.places + 1) plan.blocks

  kept-at : (b : ℕ) → b ≤ last_bank plan.places → get_or kept.blocks b 0 ≡ get_or plan.blocks b 0
  kept-at b low = get_or-take (last_bank plan.places + 1) plan.blocks b 0 (omega (arith, low))

  kept_served : (i : ℕ) (pin : Option Pin)
      → IsSoundByPin w plan (decl_at p i) (place_at plan i) (slot_at plan i) pin
      → IsSoundByPin w kept (decl_at p i) (place_at plan i) (slot_at plan i) pin
  kept_served i None served =
      record { array = served.array; served = served.served; word = served.word; apart = served.apart }
  kept_served i (Some r) served = record {
    bank = served.bank;
    pinned_bank = served.pinned_bank;
    pinned_block = served.pinned_block;
    inside =
        ⊎_elim (λ h. inl h)
        (λ h. inr (record { secret = h.secret; word = h.word; few = h.few; pinned = h.pinned })) served.inside;
  }

  kept_sound : IsSoundPlan p w kept
  kept_sound = record {
    places = is.places;
    slots = is.slots;
    banks =
        let banks = is.banks in
        let some = some_last plan.places in
        (omega (arith, banks.0, some, kept-length), omega (arith, banks.1, kept-length));
    blocks = λ b within.
        let low : b ≤ last_bank plan.places = omega (arith, within, kept-length) in
        let here = is.blocks b (omega (arith, within, kept-length)) in
        (omega (arith, here.0, kept-at b low), omega (arith, here.1, kept-at b low));
    place = λ i within.
        let q = is.place i within in
        let low = last_least plan.places i no_place (omega (arith, within, is.places)) in
        let bank = q.bank in
        let inside = q.inside in
        let same = ap (λ m. m * 2 ^ w) (kept-at (place_at plan i).bank low) in
        record {
          label = q.label;
          bank = omega (arith, low, bank, kept-length);
          words = q.words;
          word = q.word;
          inside = omega (arith, inside, same);
        };
    served = λ i within. kept_served i (pin_of_slot plan (slot_at plan i)) (is.served i within);
    hidden = is.hidden;
    apart = is.apart;
    pins = λ t r pinned.
        let pin = is.pins t r pinned in
        let bank = pin.bank in
        let block = pin.block in
        let some = some_last plan.places in
        let same = kept-at r.bank (omega (arith, bank, some)) in
        record { few = pin.few; apart = pin.apart; bank = pin.bank; block = omega (arith, block, same) };
    pins_apart = is.pins_apart;
  }

-- the whole plan
pub spread_plan_sound : (p : Source) (w : ℕ) (plan : Plan) → IsSoundPlan p w plan → length plan.pins ≡ 8
    → IsSoundPlan p w (spread_plan w plan)
spread_plan_sound p w plan sound eight =
    let first : IsSound p w plan = record { sound = sound; slots = eight } in
    kept_sound p w (spread_turn (2 ^ w) false (spread_turn (2 ^ w) true plan))
    (turn_sound p w false (spread_turn (2 ^ w) true plan) (turn_sound p w true plan first)).sound
