-- A sound plan stays sound if one of its arrays is spread.
use Rattle.std.proofs.Common.{◌≡◌, ◌≢◌, ℕ, ◌+◌, ◌*◌, ◌^◌, ◌<◌, ◌≤◌, List, length, get_or, set, Option, Some, None, ◌⊎◌, inl, inr, refl, sym, ap, ◌∙◌, subst, ⊎_elim, arith}
use Rattle.std.proofs.Math.Nat.{mul-le-mul_left}
use Rattle.std.proofs.lemmas.Bool.{cases_eq, cases_lt}
use Rattle.std.proofs.lemmas.List.{get_or-set_same, get_or-set_other, length-set}
use Rattle.gr_base.specs.Prelude.{Within}
use Rattle.gr_word.specs.declared.variables.Label.{Label}
use Rattle.gr_word.specs.declared.variables.Label.TheVariants.{Public, Secret}
use Rattle.lt_isa.specs.Prelude.{most_blocks}
use Rattle.src_tree.specs.Prelude.{Source}
use Rattle.bank_alloc.specs.declared.places.Place.{Place}
use Rattle.bank_alloc.specs.Prelude.{AreApart, start_of_place, end_of_place, scalar_bank, IsBankOf}
use Rattle.scratch_alloc.specs.declared.plans.Pin.{Pin}
use Rattle.scratch_alloc.specs.Prelude.{Plan, IsSoundPlan, IsSoundPlace, IsSoundByPin, IsSoundPin, pin_to, pin_of_slot, decl_at, place_at, slot_at, no_place}
use Rattle.spread_alloc.specs.Prelude.{pinned_from}
use Rattle.spread_alloc.proofs.Slots.{FreeFrom, free-at, pinned-other, pinned-at, pinned-either}

-- fewer blocks have fewer words
pub fewer_blocks : (size a b : ℕ) → a * size < b * size → a < b
fewer_blocks size a b less =
    ⊎_elim (λ h. h) (λ h. absurd (let e : size * b ≤ size * a = mul-le-mul_left size h in omega (arith, e, less)))
    (cases_lt a b)

more_blocks : (size a b : ℕ) → a ≤ b → a * size ≤ b * size
more_blocks size a b less = let e : size * a ≤ size * b = mul-le-mul_left size less in omega (arith, e)

pub secret_of_bank : (label : Label) (bank : ℕ) → IsBankOf label bank → 1 ≤ bank → label ≡ Secret
secret_of_bank Public bank is some = absurd (omega (arith, is, some))
secret_of_bank Secret bank is some = refl

-- Where variable number k is stored when it is spread, over how many blocks, and how many blocks the banks have then.
pub record IsTarget (w : ℕ) (plan : Plan) (k : ℕ) (q : Place) (blocks : List ℕ) (n : ℕ) : Type 0 where
  pub bank : q.bank ≡ 1
  pub word : q.word ≡ 0
  pub words : q.length ≡ (place_at plan k).length
  pub few : q.length ≤ 5 * 2 ^ w
  pub some : 1 ≤ n
  pub covers : q.length ≤ n * 2 ^ w
  pub needs : (j : ℕ) → j < n → j * 2 ^ w < q.length
  pub count : length blocks ≡ length plan.blocks
  pub grows : (b : ℕ) → get_or plan.blocks b 0 ≤ get_or blocks b 0
  pub limits : (b : ℕ) → b < length plan.blocks → get_or blocks b 0 ≤ most_blocks b
  pub inside : end_of_place (2 ^ w) q ≤ get_or blocks 1 0 * 2 ^ w
  pub apart : (i : ℕ) → i < length plan.places → i ≢ k → (place_at plan i).bank ≡ 1
      → (end_of_place (2 ^ w) (place_at plan i) ≤ start_of_place (2 ^ w) q)
      ⊎ (end_of_place (2 ^ w) q ≤ start_of_place (2 ^ w) (place_at plan i))
  pub unpinned : (t : ℕ) (p : Pin) → pin_of_slot plan t ≡ Some p → p.bank ≡ 1
      → (p.block < q.block) ⊎ (end_of_place (2 ^ w) q ≤ p.block * 2 ^ w)

module _ (p : Source) (w : ℕ) (plan : Plan) (sound : IsSoundPlan p w plan) (eight : length plan.pins ≡ 8) (k : ℕ)
    (there : k < length p.decls) (secret : (decl_at p k).label ≡ Secret) (q : Place) (blocks : List ℕ) (n : ℕ)
    (target : IsTarget w plan k q blocks n) (slots : List ℕ) (count : length slots ≡ n)
    (free : FreeFrom plan k 2 slots) where
  abbrev spread : Plan
  spread = record {
    places = set plan.places k q;
    slots = set plan.slots k (get_or slots 0 0);
    blocks = blocks;
    pins = pinned_from plan.pins slots 1 q.block;
  }

  place-here : place_at spread k ≡ q
  place-here = get_or-set_same plan.places k q no_place (omega (arith, there, sound.places))

  place-other : (i : ℕ) → i ≢ k → place_at spread i ≡ place_at plan i
  place-other i other = get_or-set_other plan.places k i q no_place other

  slot-here : slot_at spread k ≡ get_or slots 0 0
  slot-here = get_or-set_same plan.slots k (get_or slots 0 0) 0 (omega (arith, there, sound.slots))

  slot-other : (i : ℕ) → i ≢ k → slot_at spread i ≡ slot_at plan i
  slot-other i other = get_or-set_other plan.slots k i (get_or slots 0 0) 0 other

  -- a slot that holds a block still holds it
  pin-kept : (t : ℕ) (r : Pin) → pin_of_slot plan t ≡ Some r → pin_of_slot spread t ≡ Some r
  pin-kept t r is =
      pinned-other plan.pins slots 1 q.block t
      (λ j within same.
      let e : ◌≡◌ {A = Option Pin} None (Some r) =
      sym (free-at plan k 2 slots j free within).1.unpinned ∙ ap (pin_of_slot plan) same ∙ is in absurd cc)
      ∙ is

  -- the slot of another variable holds what it held
  pin-other : (i : ℕ) → i < length p.decls → i ≢ k → pin_of_slot spread (slot_at plan i) ≡ pin_of_slot plan (slot_at plan i)
  pin-other i within other =
      pinned-other plan.pins slots 1 q.block (slot_at plan i)
      (λ j inside same.
      (free-at plan k 2 slots j free inside).1.only i (omega (arith, within, sound.slots)) other (sym same))

  pin-new : (j : ℕ) → j < n → pin_of_slot spread (get_or slots j 0) ≡ Some (pin_to 1 (q.block + j))
  pin-new j within = pinned-at plan plan.pins k 2 slots 1 q.block j eight free (omega (arith, within, count))

  -- a block that a slot holds is one that it held, or one of the array
  pin-either : (t : ℕ) (r : Pin) → pin_of_slot spread t ≡ Some r
      → (pin_of_slot plan t ≡ Some r)
      ⊎ ((j : ℕ) × (j < n) × (get_or slots j 0 ≡ t) × (r ≡ pin_to 1 (q.block + j)))
  pin-either t r is =
      ⊎_elim
      (λ found.
      let within : found.0 < n = omega (arith, found.1, count) in
      let e : ◌≡◌ {A = Option Pin} (Some r) (Some (pin_to 1 (q.block + found.0))) =
      sym is ∙ ap (pin_of_slot spread) (sym found.2) ∙ pin-new found.0 within in
      inr (found.0, within, found.2, cc))
      (λ none. inl (sym (pinned-other plan.pins slots 1 q.block t none) ∙ is))
      (pinned-either plan.pins slots 1 q.block t)

  -- a block of the array isn't one that a slot held
  new-block : (t : ℕ) (r : Pin) (j : ℕ) → pin_of_slot plan t ≡ Some r → r.bank ≡ 1 → j < n → r.block ≢ q.block + j
  new-block t r j is bank within same =
      let less = target.needs j within in
      let word = target.word in
      let words : r.block * 2 ^ w ≡ (q.block + j) * 2 ^ w = ap (λ b. b * 2 ^ w) same in
      ⊎_elim (λ before. omega (arith, before, same)) (λ after. omega (arith, after, words, less, word))
      (target.unpinned t r is bank)

  other_place : (i : ℕ) → i < length p.decls → IsSoundPlace w plan (decl_at p i) (place_at plan i)
      → IsSoundPlace w spread (decl_at p i) (place_at plan i)
  other_place i within is = record {
    label = is.label;
    bank = omega (arith, is.bank, target.count);
    words = is.words;
    word = is.word;
    inside =
        let more = more_blocks (2 ^ w) (get_or plan.blocks (place_at plan i).bank 0)
        (get_or blocks (place_at plan i).bank 0) (target.grows (place_at plan i).bank) in
        let inside = is.inside in
        omega (arith, inside, more);
  }

  here_place : IsSoundPlace w spread (decl_at p k) q
  here_place =
      let is = sound.place k there in
      record {
        label = subst (λ l. IsBankOf l q.bank) (sym secret) (let b = target.bank in omega (arith, b));
        bank = let b = target.bank in let two = sound.banks.0 in omega (arith, b, two, target.count);
        words = target.words ∙ is.words;
        word = let some = is.word in let word = target.word in omega (arith, some, word);
        inside = subst (λ b. end_of_place (2 ^ w) q ≤ get_or blocks b 0 * 2 ^ w) (sym target.bank) target.inside;
      }

  placed : (i : ℕ) → i < length p.decls → IsSoundPlace w spread (decl_at p i) (place_at spread i)
  placed i within =
      ⊎_elim
      (λ same.
      subst (λ m. IsSoundPlace w spread (decl_at p m) (place_at spread m)) (sym same)
      (subst (IsSoundPlace w spread (decl_at p k)) (sym place-here) here_place))
      (λ other.
      subst (IsSoundPlace w spread (decl_at p i)) (sym (place-other i other))
      (other_place i within (sound.place i within)))
      (cases_eq i k)

  -- the array itself is resident
  here_served : IsSoundByPin w spread (decl_at p k) q (get_or slots 0 0) (Some (pin_to 1 (q.block + 0)))
  here_served = record {
    bank = target.bank ∙ ap scalar_bank (sym secret);
    pinned_bank = sym target.bank;
    pinned_block = let e : q.block + 0 ≡ q.block = omega arith in e;
    inside = inr (record {
      secret = secret;
      word = target.word;
      few = target.few;
      pinned = λ j less.
          let within : j < n = fewer_blocks (2 ^ w) j n (let c = target.covers in omega (arith, less, c)) in
          (get_or slots j 0, pin-new j within ∙ ap (λ b. Some (pin_to b (q.block + j))) (sym target.bank));
    });
  }

  -- any other variable is served as before
  other_served : (i : ℕ) → i < length p.decls → i ≢ k → (pin : Option Pin)
      → IsSoundByPin w plan (decl_at p i) (place_at plan i) (slot_at plan i) pin
      → IsSoundByPin w spread (decl_at p i) (place_at plan i) (slot_at plan i) pin
  other_served i within other None served = record {
    array = served.array;
    served = served.served;
    word = served.word;
    apart = λ t r is same.
        ⊎_elim (λ old. served.apart t r old same)
        (λ new.
        let bank : (place_at plan i).bank ≡ 1 = sym same ∙ ap (λ (x : Pin). x.bank) new.3 in
        let block : r.block * 2 ^ w ≡ (q.block + new.0) * 2 ^ w = ap (λ (x : Pin). x.block * 2 ^ w) new.3 in
        let less = target.needs new.0 new.1 in
        let start = target.word in
        let word = served.word in
        ⊎_elim
        (λ before. inr (omega (arith, before, block, start)))
        (λ after. inl (fewer_blocks (2 ^ w) r.block (place_at plan i).block
        (omega (arith, after, block, less, start, word))))
        (target.apart i (omega (arith, within, sound.places)) other bank))
        (pin-either t r is);
  }
  other_served i within other (Some r) served = record {
    bank = served.bank;
    pinned_bank = served.pinned_bank;
    pinned_block = served.pinned_block;
    inside =
        ⊎_elim (λ h. inl h)
        (λ h. inr (record {
          secret = h.secret;
          word = h.word;
          few = h.few;
          pinned = λ j less.
              let at = h.pinned j less in
              (at.0, pin-kept at.0 (pin_to (place_at plan i).bank ((place_at plan i).block + j)) at.1);
        }))
        served.inside;
  }

  abbrev At : ℕ → Place → ℕ → Option Pin → Type 0
  At m place slot pin = IsSoundByPin w spread (decl_at p m) place slot pin

  served_all : (i : ℕ) → i < length p.decls
      → IsSoundByPin w spread (decl_at p i) (place_at spread i) (slot_at spread i) (pin_of_slot spread (slot_at spread i))
  served_all i within = ⊎_elim here away (cases_eq i k)
    where
      here : i ≡ k → At i (place_at spread i) (slot_at spread i) (pin_of_slot spread (slot_at spread i))
      here same =
          let first : pin_of_slot spread (slot_at spread k) ≡ Some (pin_to 1 (q.block + 0)) =
          ap (pin_of_slot spread) slot-here ∙ pin-new 0 (let s = target.some in omega (arith, s)) in
          subst (λ m. At m (place_at spread m) (slot_at spread m) (pin_of_slot spread (slot_at spread m))) (sym same)
          (subst (At k (place_at spread k) (slot_at spread k)) (sym first)
          (subst (λ s. At k (place_at spread k) s (Some (pin_to 1 (q.block + 0)))) (sym slot-here)
          (subst (λ r. At k r (get_or slots 0 0) (Some (pin_to 1 (q.block + 0)))) (sym place-here) here_served)))

      away : i ≢ k → At i (place_at spread i) (slot_at spread i) (pin_of_slot spread (slot_at spread i))
      away other =
          let pin : pin_of_slot spread (slot_at spread i) ≡ pin_of_slot plan (slot_at plan i) =
          ap (pin_of_slot spread) (slot-other i other) ∙ pin-other i within other in
          subst (At i (place_at spread i) (slot_at spread i)) (sym pin)
          (subst (λ s. At i (place_at spread i) s (pin_of_slot plan (slot_at plan i))) (sym (slot-other i other))
          (subst (λ r. At i r (slot_at plan i) (pin_of_slot plan (slot_at plan i))) (sym (place-other i other))
          (other_served i within other (pin_of_slot plan (slot_at plan i)) (sound.served i within))))

  -- no two variables share a word
  beside : (i : ℕ) → i < length p.decls → i ≢ k → AreApart (2 ^ w) (place_at plan i) q
  beside i within other same =
      target.apart i (omega (arith, within, sound.places)) other (same ∙ target.bank)

  swapped : (r s : Place) → AreApart (2 ^ w) r s → AreApart (2 ^ w) s r
  swapped r s h same = ⊎_elim (λ x. inr x) (λ x. inl x) (h (sym same))

  apart_all : (i j : ℕ) → i < j → j < length p.decls → AreApart (2 ^ w) (place_at spread i) (place_at spread j)
  apart_all i j less within = by (cases_eq i k) (cases_eq j k)
    where
      by : (i ≡ k) ⊎ (i ≢ k) → (j ≡ k) ⊎ (j ≢ k) → AreApart (2 ^ w) (place_at spread i) (place_at spread j)
      by (inl a) (inl b) = absurd (omega (arith, a, b, less))
      by (inl a) (inr b) =
          subst (λ r. AreApart (2 ^ w) r (place_at spread j)) (sym (ap (place_at spread) a ∙ place-here))
          (subst (AreApart (2 ^ w) q) (sym (place-other j b)) (swapped (place_at plan j) q (beside j within b)))
      by (inr a) (inl b) =
          subst (AreApart (2 ^ w) (place_at spread i)) (sym (ap (place_at spread) b ∙ place-here))
          (subst (λ r. AreApart (2 ^ w) r q) (sym (place-other i a)) (beside i (omega (arith, less, within)) a))
      by (inr a) (inr b) =
          subst (λ r. AreApart (2 ^ w) r (place_at spread j)) (sym (place-other i a))
          (subst (AreApart (2 ^ w) (place_at plan i)) (sym (place-other j b)) (sound.apart i j less within))

  -- each pinned block is in its bank, and in one slot only
  pin_sound : (t : ℕ) (r : Pin) → pin_of_slot spread t ≡ Some r → IsSoundPin spread t r
  pin_sound t r is = ⊎_elim old new (pin-either t r is)
    where
      old : pin_of_slot plan t ≡ Some r → IsSoundPin spread t r
      old was =
          let pin = sound.pins t r was in
          record {
            few = pin.few;
            apart = pin.apart;
            bank = pin.bank;
            block = let b = pin.block in let g = target.grows r.bank in omega (arith, b, g);
          }

      new : (j : ℕ) × (j < n) × (get_or slots j 0 ≡ t) × (r ≡ pin_to 1 (q.block + j)) → IsSoundPin spread t r
      new at =
          let slot = (free-at plan k 2 slots at.0 free (omega (arith, at.1, count))).1 in
          let bank : r.bank ≡ 1 = ap (λ (x : Pin). x.bank) at.3 in
          let block : r.block ≡ q.block + at.0 = ap (λ (x : Pin). x.block) at.3 in
          let less = target.needs at.0 at.1 in
          let inside = target.inside in
          let start = target.word in
          let fewer : q.block + at.0 < get_or blocks 1 0 =
          fewer_blocks (2 ^ w) (q.block + at.0) (get_or blocks 1 0) (omega (arith, less, inside, start)) in
          record {
            few = let f = slot.few in omega (arith, f, at.2);
            apart = λ six. slot.apart (at.2 ∙ six);
            bank = omega (arith, bank);
            block = let same = ap (λ b. get_or blocks b 0) bank in omega (arith, fewer, block, same);
          }

  abbrev New : ℕ → Pin → Type 0
  New t x = (i : ℕ) × (i < n) × (get_or slots i 0 ≡ t) × (x ≡ pin_to 1 (q.block + i))

  pins_differ : (j m : ℕ) (r s : Pin) → pin_of_slot spread j ≡ Some r → pin_of_slot spread m ≡ Some s
      → r.bank ≡ s.bank → r.block ≡ s.block → j ≡ m
  pins_differ j m r s first second bank block = by (pin-either j r first) (pin-either m s second)
    where
      by : (pin_of_slot plan j ≡ Some r) ⊎ New j r → (pin_of_slot plan m ≡ Some s) ⊎ New m s → j ≡ m
      by (inl a) (inl b) = sound.pins_apart j m r s a b bank block
      by (inl a) (inr b) =
          absurd (new-block j r b.0 a (bank ∙ ap (λ (x : Pin). x.bank) b.3) b.1 (block ∙ ap (λ (x : Pin). x.block) b.3))
      by (inr a) (inl b) =
          absurd (new-block m s a.0 b (sym bank ∙ ap (λ (x : Pin). x.bank) a.3) a.1
          (sym block ∙ ap (λ (x : Pin). x.block) a.3))
      by (inr a) (inr b) =
          let same : a.0 ≡ b.0 =
          let e : q.block + a.0 ≡ q.block + b.0 =
          sym (ap (λ (x : Pin). x.block) a.3) ∙ block ∙ ap (λ (x : Pin). x.block) b.3 in omega (arith, e) in
          sym a.2 ∙ ap (λ i. get_or slots i 0) same ∙ b.2

  pub spread_sound : IsSoundPlan p w spread
  spread_sound = record {
    places = length-set plan.places k q ∙ sound.places;
    slots = length-set plan.slots k (get_or slots 0 0) ∙ sound.slots;
    banks = subst (Within 2 10) (sym target.count) sound.banks;
    blocks = λ b within.
        let here : b < length plan.blocks = omega (arith, within, target.count) in
        let some = (sound.blocks b here).0 in
        let more = target.grows b in
        (omega (arith, some, more), target.limits b here);
    place = placed;
    served = served_all;
    hidden = λ i within class none.
        ⊎_elim
        (λ same.
        let first : pin_of_slot spread (slot_at spread i) ≡ Some (pin_to 1 (q.block + 0)) =
        ap (λ m. pin_of_slot spread (slot_at spread m)) same ∙ ap (pin_of_slot spread) slot-here
        ∙ pin-new 0 (let s = target.some in omega (arith, s)) in
        let e : ◌≡◌ {A = Option Pin} None (Some (pin_to 1 (q.block + 0))) = sym none ∙ first in
        absurd cc)
        (λ other.
        let old = sym (ap (pin_of_slot spread) (slot-other i other) ∙ pin-other i within other) ∙ none in
        let past = sound.hidden i within class old in
        subst (λ (r : Place). 2 ≤ r.bank) (sym (place-other i other)) past)
        (cases_eq i k);
    apart = apart_all;
    pins = pin_sound;
    pins_apart = pins_differ;
  }
