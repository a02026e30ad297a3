-- The steps that write a word of an array with several blocks write it in the slot of its block, and leave every other
-- word as it is. Without effect they leave each word.
use Rattle.std.proofs.Common.{◌≡◌, ℕ, zero, suc, ◌+◌, ◌*◌, ◌<◌, ◌≤◌, Bool, true, false, not, cond, leb, ℤ, pos, List, [], ◌∷◌, ◌++◌, length, Some, refl, sym, ap, ◌∙◌, subst, arith}
use Rattle.std.specs.Prelude.{slice_get}
use Rattle.std.proofs.lemmas.Bool.{le-leb, lt-leb}
use Rattle.std.proofs.lemmas.Option.{none-some, same_Some}
use Rattle.std.proofs.Math.Nat.{suc-mul, mul-le-mul_right}
use Rattle.gr_word.specs.declared.operations.Op.TheVariants.{And, Xor}
use Rattle.gr_word.specs.Prelude.{IsWord, applied}
use Rattle.lt_isa.specs.Prelude.{Slot}
use Rattle.word_selection.specs.Prelude.{SlotStep, Contents, after, word_of, with_word_at, slot_at, mask_register, next_mask_steps, first_steps, exchange_steps, exchanges_steps, write_steps}
use Rattle.word_selection.specs.declared.effects.Effect.{Effect}
use Rattle.word_selection.specs.declared.effects.Effect.TheVariants.{Stores, Keeps}
use Rattle.word_selection.proofs.MaskWords.{mask_word, mask_of, exchanged_is, restored_is, masks_differ}
use Rattle.word_selection.proofs.SlotContents.{HaveWords, word-fits, still-words, written-back}
use Rattle.word_selection.proofs.Reading.{AreMasked, block_mask, positive, up_to}

-- the slots after a word was written in one if a test is true
exchanged : (size : ℕ) (slots : List Slot) (k : ℕ) (at word : ℤ) → Bool → List Slot
exchanged size slots k at word b = cond b (with_word_at size slots k at word) slots

-- the slots after an exchange: where a mask has no ones, the old word is kept, or the new one
keeping_old : (size : ℕ) (slots : List Slot) (k : ℕ) (at word mask : ℤ) → List Slot
keeping_old size slots k at word mask =
    with_word_at size slots k at
    (applied Xor (applied And (applied Xor (word_of size (slot_at slots k) at) word) mask)
    (word_of size (slot_at slots k) at))

keeping_new : (size : ℕ) (slots : List Slot) (k : ℕ) (at word mask : ℤ) → List Slot
keeping_new size slots k at word mask =
    with_word_at size slots k at
    (applied Xor (applied And (applied Xor (word_of size (slot_at slots k) at) word) mask) word)

-- a word that is chosen is written, or the slots stay
chosen : (size : ℕ) (slots : List Slot) (k : ℕ) (at word : ℤ) (p : Bool)
    → with_word_at size slots k at (cond p word (word_of size (slot_at slots k) at)) ≡ exchanged size slots k at word p
unfolding exchanged
chosen size slots k at word true = refl
chosen size slots k at word false = written-back size slots k at

keeping_old-is : (size : ℕ) (slots : List Slot) (k : ℕ) (at word : ℤ) (p : Bool) → HaveWords slots → IsWord word
    → keeping_old size slots k at word (mask_of p) ≡ exchanged size slots k at word p
unfolding keeping_old
keeping_old-is size slots k at word p words fits =
    ap (with_word_at size slots k at)
    (exchanged_is p (word_of size (slot_at slots k) at) word (word-fits size slots k at words) fits)
    ∙ chosen size slots k at word p

keeping_new-is : (size : ℕ) (slots : List Slot) (k : ℕ) (at word : ℤ) (p : Bool) → HaveWords slots → IsWord word
    → keeping_new size slots k at word (mask_of p) ≡ exchanged size slots k at word (not p)
unfolding keeping_new
keeping_new-is size slots k at word p words fits =
    let old = word_of size (slot_at slots k) at in
    ap (with_word_at size slots k at)
    (restored_is p old word (word-fits size slots k at words) fits ∙ restored-other p old word)
    ∙ chosen size slots k at word (not p)
  where
    restored-other : (p : Bool) (old new : ℤ) → cond p old new ≡ cond (not p) new old
    restored-other true old new = refl
    restored-other false old new = refl

exchanged-words : (size : ℕ) (slots : List Slot) (k : ℕ) (at word : ℤ) (p : Bool) → HaveWords slots → IsWord word
    → HaveWords (exchanged size slots k at word p)
unfolding exchanged
exchanged-words size slots k at word true words fits = still-words size slots k at word fits words
exchanged-words size slots k at word false words fits = words

-- the steps of a block after the first and before the last
abbrev middle_steps : Effect → (size value i : ℕ) → Bool → (slot next : ℕ) → List ℕ → List SlotStep
middle_steps effect size value i turn slot next slots =
    next_mask_steps size i turn (next ∷ slots) ++ exchange_steps effect value slot (mask_register turn)

-- whether the word is in a block, by whether it isn't before it and whether it is after it
is_there : Bool → Bool → Bool
is_there from after = cond from (not after) after

module _ (size bound : ℕ) (masked : AreMasked size bound) (n : ℕ) (inside : n < bound) (value : ℕ) (word : ℤ)
    (fits : IsWord word) where
  -- what has the value and the number, and the mask of block i
  record IsReady (c : Contents) (turn : Bool) (i : ℕ) : Type 0 where
    value_is : c.outside value ≡ word
    number : c.registers 0 ≡ pos n
    mask : c.registers (mask_register turn) ≡ mask_of (leb (i * size) n)
    words : HaveWords c.slots

  -- what exchanges leave: the slots as they are if the number is below the first word of block i, and otherwise the word
  -- in its block
  record Exchanged (slots : List Slot) (i : ℕ) (ks : List ℕ) (left : List Slot) : Type 0 where
    earlier : n < i * size → left ≡ slots
    later : (j r k : ℕ) → n ≡ i * size + (j * size + r) → r < size → slice_get ks j ≡ Some k
        → left ≡ with_word_at size slots k (pos n) word

  -- an exchange by a mask that is known
  kept-old : (slots : List Slot) (k : ℕ) (x at m : ℤ) (p : Bool) → x ≡ word → at ≡ pos n → m ≡ mask_of p
      → HaveWords slots → keeping_old size slots k at x m ≡ exchanged size slots k (pos n) word p
  kept-old slots k x at m p same number mask words =
      ap (λ y. keeping_old size slots k at y m) same
      ∙ ap (λ a. keeping_old size slots k a word m) number
      ∙ ap (keeping_old size slots k (pos n) word) mask
      ∙ keeping_old-is size slots k (pos n) word p words fits

  kept-new : (slots : List Slot) (k : ℕ) (x at m : ℤ) (p : Bool) → x ≡ word → at ≡ pos n → m ≡ mask_of p
      → HaveWords slots → keeping_new size slots k at x m ≡ exchanged size slots k (pos n) word (not p)
  kept-new slots k x at m p same number mask words =
      ap (λ y. keeping_new size slots k at y m) same
      ∙ ap (λ a. keeping_new size slots k a word m) number
      ∙ ap (keeping_new size slots k (pos n) word) mask
      ∙ keeping_new-is size slots k (pos n) word p words fits

  -- the mask of a block, by the register of the number
  made : (i : ℕ) (at : ℤ) → 1 ≤ i → i * size ≤ bound → at ≡ pos n
      → mask_word (i * size) at ≡ mask_of (leb (i * size) n)
  made i at least le number =
      ap (mask_word (i * size)) number
      ∙ block_mask size bound masked n inside i least le (positive size bound masked n inside i least)

  there : (m other : ℤ) (p q : Bool) → m ≡ mask_of p → other ≡ mask_of q
      → applied Xor m other ≡ mask_of (is_there p q)
  unfolding is_there
  there m other p q first second =
      ap (λ x. applied Xor x other) first ∙ ap (applied Xor (mask_of p)) second ∙ masks_differ p q

  -- the last block
  last-exchange : (turn : Bool) (slot i : ℕ) (c : Contents) → IsReady c turn i
      → (after size (exchange_steps Stores value slot (mask_register turn)) c).slots
      ≡ exchanged size c.slots slot (pos n) word (leb (i * size) n)
  unfolding keeping_old
  last-exchange true slot i c ready =
      kept-old c.slots slot (c.outside value) (c.registers 0) (c.registers 4) (leb (i * size) n) ready.value_is ready.number
      ready.mask ready.words
  last-exchange false slot i c ready =
      kept-old c.slots slot (c.outside value) (c.registers 0) (c.registers 3) (leb (i * size) n) ready.value_is ready.number
      ready.mask ready.words

  -- a block before it
  record Middle (slots : List Slot) (slot i : ℕ) (turn : Bool) (c : Contents) : Type 0 where
    ready : IsReady c turn (suc i)
    left : c.slots ≡ exchanged size slots slot (pos n) word (is_there (leb (i * size) n) (leb (suc i * size) n))

  -- what its exchange leaves by its mask, with the mask of the next block
  record ExchangesBy (slot i : ℕ) (c : Contents) (m : ℤ) : Type 0 where
    mask : mask_word (suc i * size) (c.registers 0) ≡ mask_of (leb (suc i * size) n)
    left : keeping_old size c.slots slot (c.registers 0) (c.outside value)
        (applied Xor m (mask_word (suc i * size) (c.registers 0)))
        ≡ exchanged size c.slots slot (pos n) word (is_there (leb (i * size) n) (leb (suc i * size) n))
    words : HaveWords (keeping_old size c.slots slot (c.registers 0) (c.outside value)
        (applied Xor m (mask_word (suc i * size) (c.registers 0))))

  exchanges-by : (slot i : ℕ) (c : Contents) (m : ℤ) → suc i * size ≤ bound → c.outside value ≡ word
      → c.registers 0 ≡ pos n → m ≡ mask_of (leb (i * size) n) → HaveWords c.slots → ExchangesBy slot i c m
  exchanges-by slot i c m le value_is number is_mask have =
      let now = leb (i * size) n in
      let later = leb (suc i * size) n in
      let next = made (suc i) (c.registers 0) (omega arith) le number in
      let kept = kept-old c.slots slot (c.outside value) (c.registers 0)
      (applied Xor m (mask_word (suc i * size) (c.registers 0))) (is_there now later) value_is
      number (there m (mask_word (suc i * size) (c.registers 0)) now later is_mask next)
      have in
      record {
        mask = next;
        left = kept;
        words = subst HaveWords (sym kept) (exchanged-words size c.slots slot (pos n) word (is_there now later) have fits);
      }

  middle-exchange : (turn : Bool) (slot next : ℕ) (slots : List ℕ) (i : ℕ) (c : Contents) → suc i * size ≤ bound → IsReady c turn i
      → Middle c.slots slot i (not turn) (after size (middle_steps Stores size value i turn slot next slots) c)
  unfolding keeping_old
  middle-exchange true slot next slots i c le ready =
      let by = exchanges-by slot i c (c.registers 4) le ready.value_is ready.number ready.mask ready.words in
      record {
        ready = record { value_is = ready.value_is; number = ready.number; mask = by.mask; words = by.words };
        left = by.left;
      }
  middle-exchange false slot next slots i c le ready =
      let by = exchanges-by slot i c (c.registers 3) le ready.value_is ready.number ready.mask ready.words in
      record {
        ready = record { value_is = ready.value_is; number = ready.number; mask = by.mask; words = by.words };
        left = by.left;
      }

  exchanges : (slots : List ℕ) (first i : ℕ) (turn : Bool) (c : Contents) → (i + length slots) * size ≤ bound
      → IsReady c turn i
      → Exchanged c.slots i (first ∷ slots) ((after size (exchanges_steps Stores size value i turn (first ∷ slots)) c).slots)
  unfolding exchanged is_there
  exchanges [] first i turn c le ready =
      let is = last-exchange turn first i c ready in
      record {
        earlier = λ less. is ∙ ap (exchanged size c.slots first (pos n) word) (lt-leb (i * size) n less);
        later = λ j r k e small at. only j r k e at is;
      }
    where
      only : (j r k : ℕ) → n ≡ i * size + (j * size + r) → slice_get (first ∷ []) j ≡ Some k → {A : List Slot}
          → A ≡ exchanged size c.slots first (pos n) word (leb (i * size) n)
          → A ≡ with_word_at size c.slots k (pos n) word
      only zero r k e at is =
          is ∙ ap (exchanged size c.slots first (pos n) word) (le-leb (i * size) n (omega (arith, e)))
          ∙ ap (λ s. with_word_at size c.slots s (pos n) word) (same_Some first k at)
      only (suc j) r k e at is = absurd (none-some k at)
  exchanges (next ∷ slots) first i turn c le ready =
      let after_it : suc i * size ≡ i * size + size = suc-mul i size in
      let count : (suc i + length slots) * size ≤ bound =
      (let same : suc i + length slots ≡ i + length (next ∷ slots) = omega arith in
      subst (λ m. m * size ≤ bound) (sym same) le) in
      let mid = middle-exchange turn first next slots i c (up_to size bound masked n inside (suc i) (length slots) count) ready in
      let rest = exchanges slots next (suc i) (not turn) (after size (middle_steps Stores size value i turn first next slots) c) count
      mid.ready in
      record {
        earlier = λ less.
            rest.earlier (omega (arith, after_it, less)) ∙ mid.left
            ∙ ap (λ b. exchanged size c.slots first (pos n) word (is_there b (leb (suc i * size) n)))
            (lt-leb (i * size) n less)
            ∙ ap (exchanged size c.slots first (pos n) word) (lt-leb (suc i * size) n (omega (arith, after_it, less)));
        later = λ j r k e small at. more j r k e small at mid.left after_it rest.earlier rest.later;
      }
    where
      more : (j r k : ℕ) → n ≡ i * size + (j * size + r) → r < size → slice_get (first ∷ next ∷ slots) j ≡ Some k
          → {A B : List Slot}
          → B ≡ exchanged size c.slots first (pos n) word (is_there (leb (i * size) n) (leb (suc i * size) n))
          → suc i * size ≡ i * size + size
          → (n < suc i * size → A ≡ B)
          → ((j r k : ℕ) → n ≡ suc i * size + (j * size + r) → r < size → slice_get (next ∷ slots) j ≡ Some k
          → A ≡ with_word_at size B k (pos n) word)
          → A ≡ with_word_at size c.slots k (pos n) word
      more zero r k e small at left after_it earlier later =
          earlier (omega (arith, after_it, e, small)) ∙ left
          ∙ ap (λ b. exchanged size c.slots first (pos n) word (is_there b (leb (suc i * size) n)))
          (le-leb (i * size) n (omega (arith, e)))
          ∙ ap (λ b. exchanged size c.slots first (pos n) word (not b))
          (lt-leb (suc i * size) n (omega (arith, after_it, e, small)))
          ∙ ap (λ s. with_word_at size c.slots s (pos n) word) (same_Some first k at)
      more (suc j) r k e small at left after_it earlier later =
          later j r k (omega (arith, e, after_it, suc-mul j size)) small at
          ∙ ap (λ l. with_word_at size l k (pos n) word)
          (left
          ∙ ap (λ b. exchanged size c.slots first (pos n) word (is_there b (leb (suc i * size) n)))
          (le-leb (i * size) n (omega (arith, e)))
          ∙ ap (λ b. exchanged size c.slots first (pos n) word (not b))
          (le-leb (suc i * size) n (omega (arith, e, after_it, suc-mul j size))))

  -- the first block
  first-exchange : (slot : ℕ) (c : Contents) → 1 * size ≤ bound → c.outside value ≡ word → c.registers 0 ≡ pos n
      → HaveWords c.slots
      → (after size (first_steps Stores size value slot) c).slots
      ≡ exchanged size c.slots slot (pos n) word (not (leb (1 * size) n))
  unfolding keeping_new
  first-exchange slot c le value_is number words =
      kept-new c.slots slot (c.outside value) (c.registers 0) (mask_word (1 * size) (c.registers 0)) (leb (1 * size) n)
      value_is number (made 1 (c.registers 0) (omega arith) le number) words

  -- the steps that write a word write it in the slot of its block, and nothing else
  pub write-word : (slots : List ℕ) (c : Contents) (j r k : ℕ) → length slots * size ≤ bound → HaveWords c.slots
      → c.outside value ≡ word → c.registers 0 ≡ pos n → n ≡ j * size + r → r < size → slice_get slots j ≡ Some k
      → (after size (write_steps Stores size value slots) c).slots ≡ with_word_at size c.slots k (pos n) word
  unfolding exchanged
  write-word [] c j r k le words value_is number e small at = absurd (none-some k at)
  write-word (slot ∷ []) c zero r k le words value_is number e small at =
      let one : 1 * size ≡ size = omega arith in
      first-exchange slot c le value_is number words
      ∙ ap (λ b. exchanged size c.slots slot (pos n) word (not b)) (lt-leb (1 * size) n (omega (arith, e, small)))
      ∙ ap (λ s. with_word_at size c.slots s (pos n) word) (same_Some slot k at)
  write-word (slot ∷ []) c (suc j) r k le words value_is number e small at = absurd (none-some k at)
  write-word (slot ∷ next ∷ slots) c j r k le words value_is number e small at =
      let count : (1 + length slots) * size ≤ bound =
      omega (arith, le, mul-le-mul_right {m = 1 + length slots} {n = length (slot ∷ next ∷ slots)} size (omega arith)) in
      let one = up_to size bound masked n inside 1 (length slots) count in
      let left = first-exchange slot c one value_is number words in
      let rest = exchanges slots next 1 false (after size (first_steps Stores size value slot) c) count
      (record {
        value_is = value_is;
        number = number;
        mask = made 1 (c.registers 0) (omega arith) one number;
        words = subst HaveWords (sym left)
            (exchanged-words size c.slots slot (pos n) word (not (leb (1 * size) n)) words fits);
      }) in
      by j e at left rest.earlier rest.later
    where
      by : (j : ℕ) → n ≡ j * size + r → slice_get (slot ∷ next ∷ slots) j ≡ Some k → {A B : List Slot}
          → B ≡ exchanged size c.slots slot (pos n) word (not (leb (1 * size) n))
          → (n < 1 * size → A ≡ B)
          → ((j r k : ℕ) → n ≡ 1 * size + (j * size + r) → r < size → slice_get (next ∷ slots) j ≡ Some k
          → A ≡ with_word_at size B k (pos n) word)
          → A ≡ with_word_at size c.slots k (pos n) word
      by zero e at left earlier later =
          earlier (omega (arith, e, small)) ∙ left
          ∙ ap (λ b. exchanged size c.slots slot (pos n) word (not b)) (lt-leb (1 * size) n (omega (arith, e, small)))
          ∙ ap (λ s. with_word_at size c.slots s (pos n) word) (same_Some slot k at)
      by (suc j) e at left earlier later =
          later j r k (omega (arith, e, suc-mul j size)) small at
          ∙ ap (λ l. with_word_at size l k (pos n) word)
          (left
          ∙ ap (λ b. exchanged size c.slots slot (pos n) word (not b))
          (le-leb (1 * size) n (omega (arith, e, suc-mul j size))))

-- ---- without effect

keeps-exchanges : (size value : ℕ) (slots : List ℕ) (first i : ℕ) (turn : Bool) (c : Contents)
    → (after size (exchanges_steps Keeps size value i turn (first ∷ slots)) c).slots ≡ c.slots
keeps-exchanges size value [] first i turn c = written-back size c.slots first (c.registers 0)
keeps-exchanges size value (next ∷ slots) first i true c =
    keeps-exchanges size value slots next (suc i) false
    (after size (middle_steps Keeps size value i true first next slots) c)
    ∙ written-back size c.slots first (c.registers 0)
keeps-exchanges size value (next ∷ slots) first i false c =
    keeps-exchanges size value slots next (suc i) true
    (after size (middle_steps Keeps size value i false first next slots) c)
    ∙ written-back size c.slots first (c.registers 0)

-- steps without effect leave each slot as it is
pub keeps-slots : (size value : ℕ) (slots : List ℕ) (c : Contents)
    → (after size (write_steps Keeps size value slots) c).slots ≡ c.slots
keeps-slots size value [] c = refl
keeps-slots size value (slot ∷ []) c = written-back size c.slots slot (c.registers 0)
keeps-slots size value (slot ∷ next ∷ slots) c =
    keeps-exchanges size value slots next 1 false (after size (first_steps Keeps size value slot) c)
    ∙ written-back size c.slots slot (c.registers 0)
