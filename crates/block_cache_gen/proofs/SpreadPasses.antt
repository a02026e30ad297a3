-- The code that reads or writes a word of an array is passed in public code, whether the words are in one slot or in
-- several.
use Rattle.std.proofs.Common.{◌≡◌, ℕ, ◌+◌, ◌/◌, ◌<◌, ◌≤◌, Bool, true, false, not, ◌&&◌, ◌||◌, ℤ, List, [], ◌∷◌, length, get_or, Option, Some, None, refl, ap, ◌∙◌, arith, pow_pos}
use Rattle.std.specs.List.{slice_get}
use Rattle.std.proofs.lemmas.Bool.{eqb-true}
use Rattle.gr_word.specs.declared.variables.Label.{Label}
use Rattle.gr_word.specs.declared.variables.Shape.TheVariants.{Array}
use Rattle.lt_isa.specs.declared.instructions.Instr.{Instr}
use Rattle.lt_isa.specs.declared.instructions.Instr.TheVariants.{Ldw, Stw, Stb}
use Rattle.lt_isa.specs.Prelude.{Parts, block_words, is_ram}
use Rattle.src_tree.specs.Prelude.{context_of}
use Rattle.scratch_alloc.specs.Prelude.{pin_to}
use Rattle.trace_patterns.specs.Prelude.{Known, is_secret, bank_known, set_secret}
use Rattle.stretches.proofs.Passed.{GoesOn, NoMore, One, rules-ldw, rules-stw, rules-stb, secret-same}
use Rattle.word_selection.specs.declared.effects.Effect.TheVariants.{Stores}
use Rattle.word_selection.specs.Prelude.{selected_read, IsOutside}
use Rattle.word_selection.proofs.ReadLaws.{passes-read}
use Rattle.word_selection.proofs.WriteLaws.{passes-write}
use Rattle.block_cache_gen.specs.declared.frames.Mode.TheVariants.{Public}
use Rattle.block_cache_gen.specs.Prelude.{further_slots, Pin, Setting, HasHomes, IsResidentHome, home_of, pin_at, slots_of_home, slot_of_word, words_a_block, fixed_word, read_by, read_code, stored_among, stored_by, stored_code, Carries, first_kept}
use Rattle.block_cache_gen.proofs.HomeFacts.{block_words-is}
use Rattle.block_cache_gen.proofs.WordSlots.{word-pinned, slot-pinned, several}
use Rattle.block_cache_gen.proofs.KeptRegisters.{SameBelow, same-itself, same-set}
use Rattle.block_cache_gen.proofs.SpreadArms.{secret-bank, fixed-within}

-- nothing secret is stored into plain memory
pub stored : (bank : ℕ) (value place : Bool) → (bank ≡ 0 → value ≡ false) → (bank ≡ 0 → place ≡ false)
    → (is_ram bank && (value || place)) ≡ false
stored bank value place first second = by (is_ram bank) refl
  where
    by : (ram : Bool) → is_ram bank ≡ ram → (ram && (value || place)) ≡ false
    by false is = refl
    by true is =
        let zero : bank ≡ 0 = eqb-true bank 0 is in
        ap (λ (b : Bool). b || place) (first zero) ∙ second zero

-- Code that reads a word of a bank to a register is passed: the register has the label of such a word, registers below it
-- and those that hold something for the whole run are as before.
pub record PassesWord (o : Parts) (f : Setting) (to bank p : ℕ) (code : List Instr) (k : Known) : Type 0 where
  pub last : Known
  pub goes : GoesOn o p code k last
  pub value : is_secret last to ≡ (not (is_ram bank) || is_secret k to)
  pub same : SameBelow f to k last

-- code that stores a word is passed
pub record PassesStore (o : Parts) (f : Setting) (p : ℕ) (code : List Instr) (k : Known) : Type 0 where
  pub last : Known
  pub goes : GoesOn o p code k last
  pub same : SameBelow f 1 k last

module _ (o : Parts) (f : Setting) (homes : HasHomes o f) (x : List ℕ) (l : Label)
    (known : context_of f.decls x ≡ Some (l, Array)) (k : Known) (carries : Carries f k)
    (bound : bank_known k (home_of f x).slot ≡ Some (home_of f x).bank) where
  pinned-known : (j : ℕ) (p : Pin) → pin_at f j ≡ Some p → bank_known k j ≡ Some p.bank
  pinned-known j p is = let pin = homes.pins j p is in carries.pinned j p is pin.few pin.apart

  home : (home_of f x).resident ≡ true → IsResidentHome f (block_words o) l (home_of f x)
  home resident = homes.residents x l Array known resident

  some_words : 1 ≤ block_words o
  some_words = pow_pos o.profile.block_log

  each-known : (home_of f x).resident ≡ true → (i j : ℕ) → slice_get (slots_of_home (home_of f x)) i ≡ Some j
      → bank_known k j ≡ Some (home_of f x).bank
  each-known resident i j is =
      let h = home_of f x in
      pinned-known j (pin_to h.bank (h.block + i))
      (slot-pinned f (block_words o) l h (home resident) (block_words-is homes) some_words i j is)

  word-known : (home_of f x).resident ≡ true → (z : ℤ)
      → bank_known k (slot_of_word f (home_of f x) ((home_of f x).word + fixed_word (home_of f x) z))
      ≡ Some (home_of f x).bank
  word-known resident z =
      let h = home_of f x in
      let n = h.word + fixed_word h z in
      pinned-known (slot_of_word f h n) (pin_to h.bank (h.block + n / words_a_block f))
      (word-pinned f (block_words o) l h (home resident) (block_words-is homes) some_words n
      (fixed-within o f homes x l Array known resident z))

  -- ---- a word is read

  one-read : (to p slot : ℕ) → to < first_kept f → bank_known k slot ≡ Some (home_of f x).bank
      → PassesWord o f to (home_of f x).bank p (Ldw to slot to ∷ []) k
  one-read to p slot low bank =
      let h = home_of f x in
      let label = not (is_ram h.bank) || is_secret k to in
      let last = set_secret k to label in
      let sized = carries.registers in
      record {
        last = last;
        goes = One p (Ldw to slot to) [] k last last (rules-ldw o p k to slot to h.bank bank) (NoMore (p + 1) last);
        value = secret-same k to label (omega (arith, sized, low));
        same = same-set f to k k to label (omega arith) low (same-itself f to k);
      }

  selected-read : (to p : ℕ) → to + 3 < first_kept f → (home_of f x).resident ≡ true
      → PassesWord o f to (home_of f x).bank p (selected_read (words_a_block f) (slots_of_home (home_of f x)) to) k
  selected-read to p small resident =
      let h = home_of f x in
      let read = passes-read o to (words_a_block f) h.bank p (slots_of_home h) k (omega (arith, small)) (omega arith)
      carries.registers (each-known resident) in
      record {
        last = read.last;
        goes = read.goes;
        value = read.value;
        same = record {
          sized = read.count;
          count = ap length read.banks;
          registers = read.below;
          above = λ r le. read.above r (omega (arith, le, small));
          slots = λ slot apart. ap (λ (banks : List (Option ℕ)). get_or banks slot None) read.banks;
        };
      }

  pub read-passes : (to p : ℕ) (fixed : Option ℤ) → to + 3 < first_kept f
      → PassesWord o f to (home_of f x).bank p (read_code f (home_of f x) fixed to) k
  read-passes to p fixed small = by (home_of f x).resident refl fixed
    where
      by : (b : Bool) → (home_of f x).resident ≡ b → (fixed : Option ℤ)
          → PassesWord o f to (home_of f x).bank p (read_by b f (home_of f x) fixed to) k
      by false is fixed = one-read to p (home_of f x).slot (omega (arith, small)) bound
      by true is (Some z) =
          let h = home_of f x in
          one-read to p (slot_of_word f h (h.word + fixed_word h z)) (omega (arith, small)) (word-known is z)
      by true is None = selected-read to p small is

  -- ---- a word is stored

  module _ (value p : ℕ) (outer : IsOutside 1 4 value) (public : (home_of f x).bank ≡ 0 → is_secret k value ≡ false)
      (place : (home_of f x).bank ≡ 0 → is_secret k 1 ≡ false) where
    one-store : (slot : ℕ) → bank_known k slot ≡ Some (home_of f x).bank
        → PassesStore o f p (Stw value slot 1 ∷ []) k
    one-store slot bank = record {
      last = k;
      goes
          = One p (Stw value slot 1) [] k k k
          (rules-stw o p k value slot 1 (home_of f x).bank bank
          (stored (home_of f x).bank (is_secret k value) (is_secret k 1) public place))
          (NoMore (p + 1) k);
      same = same-itself f 1 k;
    }

    block-store : PassesStore o f p (Stw value (home_of f x).slot 1 ∷ Stb (home_of f x).slot ∷ []) k
    block-store =
        let h = home_of f x in
        record {
          last = k;
          goes
              = One p (Stw value h.slot 1) (Stb h.slot ∷ []) k k k
              (rules-stw o p k value h.slot 1 h.bank bound
              (stored h.bank (is_secret k value) (is_secret k 1) public place))
              (One (p + 1) (Stb h.slot) [] k k k (rules-stb o (p + 1) k h.slot h.bank bound) (NoMore (p + 1 + 1) k));
          same = same-itself f 1 k;
        }

    selected-store : (home_of f x).resident ≡ true → (more : List ℕ) → (further_slots (home_of f x)) ≡ more
        → PassesStore o f p (stored_among f Public (home_of f x).slot more value) k
    selected-store resident [] is = one-store (home_of f x).slot bound
    selected-store resident (next ∷ rest) is =
        let h = home_of f x in
        let slots = h.slot ∷ next ∷ rest in
        let spread = several f (block_words o) l h (home resident) (block_words-is homes) some_words next rest is in
        let bank : h.bank ≡ 1 = secret-bank o f homes x l Array known resident spread.secret in
        let write = passes-write o Stores 1 value (words_a_block f) h.bank p slots k (omega arith) outer
        (ap is_ram bank) carries.registers
        (λ i j got. each-known resident i j (ap (λ (more : List ℕ). slice_get (h.slot ∷ more) i) is ∙ got)) in
        record {
          last = write.last;
          goes = write.goes;
          same = record {
            sized = write.count;
            count = ap length write.banks;
            registers = write.below;
            above = λ r le. write.above r (omega (arith, le));
            slots = λ slot apart. ap (λ (banks : List (Option ℕ)). get_or banks slot None) write.banks;
          };
        }

    pub store-passes : (fixed : Option ℤ) → PassesStore o f p (stored_code f Public (home_of f x) fixed value) k
    store-passes fixed = by (home_of f x).resident refl fixed
      where
        by : (b : Bool) → (home_of f x).resident ≡ b → (fixed : Option ℤ)
            → PassesStore o f p (stored_by b f Public (home_of f x) fixed value) k
        by false is fixed = block-store
        by true is (Some z) =
            let h = home_of f x in
            one-store (slot_of_word f h (h.word + fixed_word h z)) (word-known is z)
        by true is None = selected-store is (further_slots (home_of f x)) refl
