-- What an object that has homes says of them: its blocks' sizes, the slots, and the blocks in which elements are.
use Rattle.std.proofs.Common.{◌≡◌, ◌≢◌, not, ◌&&◌, ◌==◌, Bool, true, false, Option, Some, None, ℕ, ◌+◌, ◌*◌, ◌/◌, ◌%◌, ◌^◌, ◌<◌, ◌≤◌, ◌⊎◌, inl, inr, refl, sym, ap, ◌∙◌, subst, ⊎_elim, arith, mul-le-mul_right, add-mul, div-add-mod', pow_pos, mod-lt}
use Rattle.std.proofs.Math.Bool.{and-false}
use Rattle.std.proofs.lemmas.Bool.{cases_lt, lt-ltb, ltb-true}
use Rattle.std.specs.Prelude.{nat_lt, if◌then◌else◌, List, ◌↔◌}
use Rattle.std.proofs.lemmas.Nat.{div-mul-add, mod-mul-add}
use Rattle.gr_base.specs.Prelude.{Within}
use Rattle.gr_word.specs.declared.variables.Label.{Label}
use Rattle.gr_word.specs.declared.variables.Label.TheVariants.{Public, Secret}
use Rattle.gr_word.specs.declared.variables.Shape.TheVariants.{Array}
use Rattle.src_tree.specs.Prelude.{context_of}
use Rattle.bank_alloc.specs.Prelude.{scalar_bank}
use Rattle.lt_isa.specs.Prelude.{Parts, block_words, blocks_of, IsInRange, ProfileFits}
use Rattle.lt_isa.proofs.Cycles.{blocks-most}
use Rattle.block_cache_gen.specs.Prelude.{has_offset, Home, Setting, HasHomes, Pin, home_of, pin_at, IsArrayHome, Serves, PlainSlot, EncryptedSlot, ObliviousSlot, words_a_block, start_of_home, IsBlockOf, shows_index}

-- an array that begins its block
pub offset-none : (h : Home) → (h.word == 0) ≡ true → has_offset h ≡ false
offset-none h begins = ap (λ (b : Bool). h.resident && not b) begins ∙ and-false h.resident

-- the words of a block, as the object and as the setting say them
pub block_words-is : {o : Parts} {f : Setting} → HasHomes o f → block_words o ≡ words_a_block f
block_words-is homes = ap (λ p. 2 ^ p.block_log) homes.profile

-- the setting's profile is in its ranges
pub profile-fits : {o : Parts} {f : Setting} → IsInRange o → HasHomes o f → ProfileFits f.profile
profile-fits fits homes = subst ProfileFits homes.profile fits.profile

-- a block has a word at least
pub block_words-least : {o : Parts} {f : Setting} → IsInRange o → HasHomes o f → 1 ≤ words_a_block f
block_words-least {f = f} fits homes = pow_pos f.profile.block_log

-- a slot that serves plain or encrypted memory is one of 2 to 5
pub serves-cached : {bank slot : ℕ} → Serves bank slot → bank < 2 → Within 2 5 slot
serves-cached (PlainSlot slot within) few = (omega arith, omega arith)
serves-cached (EncryptedSlot slot within) few = (omega arith, omega arith)
serves-cached (ObliviousSlot bank least) few = absurd (omega arith)

-- one slot serves all oblivious banks
pub serves-oblivious : {bank slot : ℕ} → Serves bank slot → 2 ≤ bank → slot ≡ 6
serves-oblivious (PlainSlot slot within) many = absurd (omega arith)
serves-oblivious (EncryptedSlot slot within) many = absurd (omega arith)
serves-oblivious (ObliviousSlot bank least) many = refl

-- the bank that a slot from 2 to 5 serves
abbrev pub bank_served : ℕ → ℕ → Type 0
bank_served slot bank = (Within 2 3 slot × (bank ≡ 0)) ⊎ (Within 4 5 slot × (bank ≡ 1))

pub served_bank : {bank slot : ℕ} → Serves bank slot → Within 2 5 slot → bank_served slot bank
served_bank (PlainSlot slot within) few = inl (within, refl)
served_bank (EncryptedSlot slot within) few = inr (within, refl)
served_bank (ObliviousSlot bank least) few = absurd (omega arith)

-- a slot from 2 to 5 serves only one bank
pub served-one : (slot a b : ℕ) → bank_served slot a → bank_served slot b → a ≡ b
served-one slot a b (inl p) (inl q) = p.1 ∙ sym q.1
served-one slot a b (inl p) (inr q) = absurd (omega (arith, p.0, q.0))
served-one slot a b (inr p) (inl q) = absurd (omega (arith, p.0, q.0))
served-one slot a b (inr p) (inr q) = p.1 ∙ sym q.1

-- the banks that one slot serves are one
pub serves-same : {a b slot : ℕ} → Serves a slot → Serves b slot → Within 2 5 slot → a ≡ b
serves-same {a = a} {b = b} {slot = slot} first second few =
    served-one slot a b (served_bank first few) (served_bank second few)

-- a pinned slot and one of an array that isn't resident are two
pub pinned-apart : (f : Setting) (j k : ℕ) (p : Pin) → pin_at f j ≡ Some p → pin_at f k ≡ None → j ≢ k
pinned-apart f j k p pinned unpinned same =
    let e : ◌≡◌ {A = Option Pin} (Some p) None = sym pinned ∙ ap (pin_at f) same ∙ unpinned in cc

-- an index that shows is one of plain memory, or of encrypted memory where its slot holds other blocks too
pub shows-cached : (h : Home) → h.resident ≡ false → h.bank < 2 → shows_index h ≡ true
shows-cached h turn low = ap (λ (b : Bool). nat_lt h.bank (if b then 1 else 2)) turn ∙ lt-ltb h.bank 2 low

pub shows-plain : (h : Home) → h.bank ≡ 0 → shows_index h ≡ true
shows-plain h plain = by h.resident
  where
    by : (b : Bool) → nat_lt h.bank (if b then 1 else 2) ≡ true
    by true = lt-ltb h.bank 1 (omega (arith, plain))
    by false = lt-ltb h.bank 2 (omega (arith, plain))

pub shown-low : (h : Home) → shows_index h ≡ true → h.bank < 2
shown-low h shows = by h.resident shows
  where
    by : (b : Bool) → nat_lt h.bank (if b then 1 else 2) ≡ true → h.bank < 2
    by true e = omega (arith, ltb-true h.bank 1 e)
    by false e = ltb-true h.bank 2 e

-- The block in which a word of an array is: a slot from 2 to 5 serves only one bank of the array's and one of its bank.
module _ (o : Parts) (fits : IsInRange o) (f : Setting) (homes : HasHomes o f) (label : Label) (h : Home)
    (home : IsArrayHome o f label h) where
  pub block-split : (n : ℕ)
      → (h.block + n / words_a_block f) * words_a_block f + n % words_a_block f ≡ h.block * words_a_block f + n
  block-split n =
      let w = words_a_block f in
      omega (arith, add-mul h.block (n / w) w, div-add-mod' n w)

  -- a slot from 2 to 5 serves only one bank of the array's blocks
  pub block-of : (n : ℕ) → n < h.length → IsBlockOf (words_a_block f) h (h.block + n / words_a_block f)
  block-of n within = record { begins = omega (arith, block-split n); behind = omega arith }

  -- the bank has that block
  pub block-exists : (n : ℕ) → n < h.length → h.block + n / words_a_block f < blocks_of o h.bank
  block-exists n within =
      let w = words_a_block f in
      let inside : h.block * w + h.length ≤ blocks_of o h.bank * w =
      subst (λ w. h.block * w + h.length ≤ blocks_of o h.bank * w) (block_words-is homes) home.inside in
      ⊎_elim
      (λ below. below)
      (λ past. absurd
      (omega (arith, inside, block-split n, mul-le-mul_right {m = blocks_of o h.bank} {n = h.block + n / w} w past)))
      (cases_lt (h.block + n / w) (blocks_of o h.bank))

  -- its number is small
  pub block-small : (n : ℕ) → n < h.length → h.block + n / words_a_block f < 65536
  block-small n within = omega (arith, block-exists n within, blocks-most o fits h.bank home.bank)

  -- the same of the word's number in its bank
  pub word-split : (n : ℕ)
      → start_of_home (words_a_block f) h + n ≡ (h.block + n / words_a_block f) * words_a_block f + n % words_a_block f
  word-split n = omega (arith, home.word, block-split n)

  -- the word of the bank is in that block
  pub word-block : (n : ℕ) → (start_of_home (words_a_block f) h + n) / words_a_block f ≡ h.block + n / words_a_block f
  word-block n =
      let w = words_a_block f in
      ap (λ m. m / w) (word-split n) ∙ div-mul-add (h.block + n / w) w (n % w) (mod-lt n (block_words-least fits homes))

  -- and there it has the place that the word of the array has
  pub word-place : (n : ℕ) → (start_of_home (words_a_block f) h + n) % words_a_block f ≡ n % words_a_block f
  word-place n =
      let w = words_a_block f in
      ap (λ m. m % w) (word-split n) ∙ mod-mul-add (h.block + n / w) w (n % w) (mod-lt n (block_words-least fits homes))

-- plain memory has the public arrays
pub plain-array : (o : Parts) (f : Setting) → HasHomes o f → (x : List ℕ) (label : Label)
    → context_of f.decls x ≡ Some (label, Array) → ((home_of f x).bank ≡ 0) ↔ (label ≡ Public)
plain-array o f homes x label known = by (home_of f x).resident refl
  where
    of_label : (l : Label) → (home_of f x).bank ≡ scalar_bank l → ((home_of f x).bank ≡ 0) ↔ (l ≡ Public)
    of_label Public is = (λ e. refl, λ e. is)
    of_label Secret is = (
      λ e. absurd (omega (arith, e, is)),
      λ e. absurd (let g : ◌≡◌ {A = Label} Secret Public = e in cc),
    )

    by : (b : Bool) → (home_of f x).resident ≡ b → ((home_of f x).bank ≡ 0) ↔ (label ≡ Public)
    by true is = of_label label (homes.residents x label Array known is).bank
    by false is = (homes.arrays x label known is).plain
