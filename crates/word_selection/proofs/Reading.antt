-- The steps that read a word of an array with several blocks leave that word.
use Rattle.std.proofs.Common.{◌≡◌, ℕ, zero, suc, ◌+◌, ◌-◌, ◌*◌, ◌^◌, ◌<◌, ◌≤◌, Bool, true, false, cond, leb, ℤ, pos, List, [], ◌∷◌, length, Some, refl, sym, ap, ◌∙◌, subst, arith}
use Rattle.std.specs.Prelude.{slice_get}
use Rattle.std.proofs.lemmas.Bool.{le-leb, lt-leb}
use Rattle.std.proofs.lemmas.Option.{none-some, same_Some}
use Rattle.std.proofs.Math.Nat.{suc-mul, mul-le-mul_right}
use Rattle.gr_word.specs.declared.operations.Op.TheVariants.{And, Xor}
use Rattle.gr_word.specs.Prelude.{IsWord, applied}
use Rattle.word_selection.specs.Prelude.{with_register, Contents, Read, after_step, after, word_of, slot_at, choice_steps, choices_steps, read_steps}
use Rattle.word_selection.proofs.MaskWords.{shift_of, mask_word, mask_of, mask_made, chosen_is}
use Rattle.word_selection.proofs.SlotContents.{HaveWords, word-fits}

-- Blocks of a size, and numbers of words below a bound: the masks for the first word of each block shift all but the sign
-- out.
pub record AreMasked (size bound : ℕ) : Type 0 where
  pub least : 1 ≤ size
  pub small : bound < 2 ^ 63
  pub shifts : (i : ℕ) → 1 ≤ i → i * size ≤ bound → bound ≤ 2 ^ shift_of (i * size)

-- the word that a choice leaves, by the number, the word of the slot and the word so far
chosen_word : (limit : ℕ) (number word so_far : ℤ) → ℤ
chosen_word limit number word so_far =
    applied Xor so_far (applied And (applied Xor word so_far) (mask_word limit number))

module _ (size bound : ℕ) (masked : AreMasked size bound) (n : ℕ) (inside : n < bound) where
  -- a mask for the first word of a block
  pub block_mask : (i : ℕ) → 1 ≤ i → i * size ≤ bound → 1 ≤ i * size → mask_word (i * size) (pos n) ≡ mask_of (leb (i * size) n)
  block_mask i least le some =
      let enough = masked.shifts i least le in
      mask_made (i * size) n some (omega (arith, masked.small)) (omega (arith, masked.small)) (omega arith) (omega arith)

  chosen : (i : ℕ) (word so_far : ℤ) → 1 ≤ i → i * size ≤ bound → 1 ≤ i * size → IsWord word → IsWord so_far
      → chosen_word (i * size) (pos n) word so_far ≡ cond (leb (i * size) n) word so_far
  unfolding chosen_word
  chosen i word so_far least le some fits others =
      ap (λ m. applied Xor so_far (applied And (applied Xor word so_far) m)) (block_mask i least le some)
      ∙ chosen_is (leb (i * size) n) word so_far fits others

  -- what choices leave: the word so far if the number is below the first limit, and otherwise the word of its block
  record Chosen (c : Contents) (i : ℕ) (slots : List ℕ) (word : ℤ) : Type 0 where
    earlier : n < i * size → word ≡ c.registers 1
    later : (j r k : ℕ) → n ≡ i * size + (j * size + r) → r < size → slice_get slots j ≡ Some k
        → word ≡ word_of size (slot_at c.slots k) (pos n)

  pub positive : (i : ℕ) → 1 ≤ i → 1 ≤ i * size
  positive zero least = absurd (omega arith)
  positive (suc i) least = omega (arith, suc-mul i size, masked.least)

  pub up_to : (i m : ℕ) → (i + m) * size ≤ bound → i * size ≤ bound
  up_to i m le =
      let fewer : i ≤ i + m = omega arith in
      omega (arith, le, mul-le-mul_right {m = i} {n = i + m} size fewer)

  -- the register of a choice
  left : (i : ℕ) (slot : ℕ) (c : Contents) → 1 ≤ i → i * size ≤ bound → 1 ≤ i * size
      → c.registers 0 ≡ pos n → IsWord (c.registers 1) → HaveWords c.slots
      → chosen_word (i * size) (c.registers 0) (word_of size (slot_at c.slots slot) (c.registers 0)) (c.registers 1)
      ≡ cond (leb (i * size) n) (word_of size (slot_at c.slots slot) (pos n)) (c.registers 1)
  left i slot c least le some number fits words =
      ap (λ m. chosen_word (i * size) m (word_of size (slot_at c.slots slot) m) (c.registers 1)) number
      ∙ chosen i (word_of size (slot_at c.slots slot) (pos n)) (c.registers 1) least le some
      (word-fits size c.slots slot (pos n) words) fits

  choices-chosen : (slots : List ℕ) (first i : ℕ) (c : Contents) → 1 ≤ i → (i + length slots) * size ≤ bound
      → c.registers 0 ≡ pos n → IsWord (c.registers 1) → HaveWords c.slots
      → Chosen c i (first ∷ slots) ((after size (choices_steps size i (first ∷ slots)) c).registers 0)
  unfolding chosen_word
  choices-chosen [] first i c least le number fits words =
      let word = word_of size (slot_at c.slots first) (pos n) in
      let some : 1 ≤ i * size = positive i least in
      let bounded : i * size ≤ bound = up_to i 0 le in
      let is = left i first c least bounded some number fits words in
      record {
        earlier = λ less. is ∙ ap (λ b. cond b word (c.registers 1)) (lt-leb (i * size) n less);
        later = λ j r k e small at. only j r k e at is;
      }
    where
      only : (j r k : ℕ) → n ≡ i * size + (j * size + r) → slice_get (first ∷ []) j ≡ Some k
          → {A : ℤ} → A ≡ cond (leb (i * size) n) (word_of size (slot_at c.slots first) (pos n)) (c.registers 1)
          → A ≡ word_of size (slot_at c.slots k) (pos n)
      only zero r k e at is =
          is ∙ ap (λ b. cond b (word_of size (slot_at c.slots first) (pos n)) (c.registers 1))
          (le-leb (i * size) n (omega arith))
          ∙ ap (λ s. word_of size (slot_at c.slots s) (pos n)) (same_Some first k at)
      only (suc j) r k e at is = absurd (none-some k at)
  choices-chosen (next ∷ slots) first i c least le number fits words =
      let word = word_of size (slot_at c.slots first) (pos n) in
      let some : 1 ≤ i * size = positive i least in
      let bounded : i * size ≤ bound = up_to i (length (next ∷ slots)) le in
      let is = left i first c least bounded some number fits words in
      let then = after size (choice_steps (i * size) first 1) c in
      let after_it : suc i * size ≡ i * size + size = suc-mul i size in
      let count : (suc i + length slots) * size ≤ bound =
      (let same : suc i + length slots ≡ i + length (next ∷ slots) = omega arith in
      subst (λ m. m * size ≤ bound) (sym same) le) in
      let rest = choices-chosen slots next (suc i) then (omega arith) count number
      (subst IsWord (sym is)
      (cond-word (leb (i * size) n) word (c.registers 1) (word-fits size c.slots first (pos n) words) fits)) words in
      record {
        earlier = λ less.
            rest.earlier (omega (arith, after_it, less)) ∙ is
            ∙ ap (λ b. cond b word (c.registers 1)) (lt-leb (i * size) n less);
        later = λ j r k e small at.
            more j r k e small at is after_it rest.earlier rest.later;
      }
    where
      cond-word : (b : Bool) (x y : ℤ) → IsWord x → IsWord y → IsWord (cond b x y)
      cond-word true x y fx fy = fx
      cond-word false x y fx fy = fy

      more : (j r k : ℕ) → n ≡ i * size + (j * size + r) → r < size → slice_get (first ∷ next ∷ slots) j ≡ Some k
          → {A B : ℤ} → B ≡ cond (leb (i * size) n) (word_of size (slot_at c.slots first) (pos n)) (c.registers 1)
          → suc i * size ≡ i * size + size
          → (rest_earlier : n < suc i * size → A ≡ B)
          → (rest_later : (j r k : ℕ) → n ≡ suc i * size + (j * size + r) → r < size
          → slice_get (next ∷ slots) j ≡ Some k → A ≡ word_of size (slot_at c.slots k) (pos n))
          → A ≡ word_of size (slot_at c.slots k) (pos n)
      more zero r k e small at is after_it earlier later =
          earlier (omega (arith, after_it, e, small)) ∙ is
          ∙ ap (λ b. cond b (word_of size (slot_at c.slots first) (pos n)) (c.registers 1))
          (le-leb (i * size) n (omega (arith, e)))
          ∙ ap (λ s. word_of size (slot_at c.slots s) (pos n)) (same_Some first k at)
      more (suc j) r k e small at is after_it earlier later =
          later j r k (omega (arith, e, after_it, suc-mul j size)) small at

  -- the steps that read a word leave the word of its block, and slots as they are
  pub read-word : (slots : List ℕ) (c : Contents) (j r k : ℕ) → length slots * size ≤ bound → HaveWords c.slots
      → c.registers 0 ≡ pos n → n ≡ j * size + r → r < size → slice_get slots j ≡ Some k
      → (after size (read_steps size slots) c).registers 0 ≡ word_of size (slot_at c.slots k) (pos n)
  read-word [] c j r k le words number e small at = absurd (none-some k at)
  read-word (slot ∷ []) c zero r k le words number e small at =
      ap (word_of size (slot_at c.slots slot)) number
      ∙ ap (λ s. word_of size (slot_at c.slots s) (pos n)) (same_Some slot k at)
  read-word (slot ∷ []) c (suc j) r k le words number e small at = absurd (none-some k at)
  read-word (slot ∷ next ∷ slots) c j r k le words number e small at =
      let first = word_of size (slot_at c.slots slot) (c.registers 0) in
      let then = with_register c 1 first in
      let same : 1 + length slots ≡ length (slot ∷ next ∷ slots) - 1 = omega arith in
      let rest = choices-chosen slots next 1 then (omega arith)
      (omega (arith, le, mul-le-mul_right {m = 1 + length slots} {n = length (slot ∷ next ∷ slots)} size (omega arith)))
      number (word-fits size c.slots slot (c.registers 0) words) words in
      by j e at rest.earlier rest.later
    where
      by : (j : ℕ) → n ≡ j * size + r → slice_get (slot ∷ next ∷ slots) j ≡ Some k → {A : ℤ}
          → (n < 1 * size → A ≡ word_of size (slot_at c.slots slot) (c.registers 0))
          → ((j r k : ℕ) → n ≡ 1 * size + (j * size + r) → r < size → slice_get (next ∷ slots) j ≡ Some k
          → A ≡ word_of size (slot_at c.slots k) (pos n))
          → A ≡ word_of size (slot_at c.slots k) (pos n)
      by zero e at earlier later =
          earlier (omega (arith, e, small)) ∙ ap (word_of size (slot_at c.slots slot)) number
          ∙ ap (λ s. word_of size (slot_at c.slots s) (pos n)) (same_Some slot k at)
      by (suc j) e at earlier later = later j r k (omega (arith, e, suc-mul j size)) small at

  -- reading leaves the slots as they are
  choices-slots : (slots : List ℕ) (first i : ℕ) (c : Contents)
      → (after size (choices_steps size i (first ∷ slots)) c).slots ≡ c.slots
  choices-slots [] first i c = refl
  choices-slots (next ∷ slots) first i c =
      choices-slots slots next (suc i) (after size (choice_steps (i * size) first 1) c)

  pub read-slots : (slots : List ℕ) (c : Contents) → (after size (read_steps size slots) c).slots ≡ c.slots
  read-slots [] c = refl
  read-slots (slot ∷ []) c = refl
  read-slots (slot ∷ next ∷ slots) c =
      choices-slots slots next 1 (after_step size (Read 1 slot 0) c)
