-- The state that a run starts in.
use Rattle.std.proofs.Common.{◌≡◌, ℕ, suc, ◌+◌, ◌-◌, ◌*◌, ◌<◌, Bool, true, false, cond, ◌&&◌, ◌==◌, ℤ, pos, List, [], ◌∷◌, length, map, replicate, get_or, Option, Some, All, refl, sym, ap, ◌∙◌, subst, ⊎_elim, arith}
use Rattle.std.specs.List.{range_with_len}
use Rattle.std.proofs.lemmas.Bool.{cases_lt, eqb-true}
use Rattle.std.proofs.lemmas.List.{get_or_past, get_or-replicate, length-replicate}
use Rattle.std.proofs.lemmas.List.Elements.{All-tail, All-replicate, All-from_get_or}
use Rattle.std.proofs.lemmas.List.FromFn.{length-map-range_with_len, get_or-map-range_with_len}
use Rattle.std.proofs.Math.Facts.{sfits_lit}
use Rattle.gr_word.specs.declared.variables.Label.TheVariants.{Public}
use Rattle.gr_word.specs.Prelude.{IsWord, FitsWants}
use Rattle.lt_isa.specs.declared.symbols.Symbol.{Symbol}
use Rattle.lt_isa.specs.Prelude.{Parts, block_words, blocks_of, first_word, Unbound, register, slot, bank_blocks, block_at, word_in, IsShaped, SlotFits, IsBlock, want_of, FitsObject, covers, start_word, start_block, start_bank, start_banks, start_state, AgreeOn, Agree}
use Rattle.lt_isa.proofs.Shapes.{IsWord-at}

-- at the start registers are 0
pub register-start : (o : Parts) (inputs : List (List ℤ)) (r : ℕ) → register (start_state o inputs) r ≡ pos 0
unfolding start_state
register-start o inputs r =
    ⊎_elim (λ within. get_or-replicate 32 r (pos 0) (pos 0) within)
    (λ past. get_or_past (replicate 32 (pos 0)) r (pos 0) past) (cases_lt r 32)

-- at the start no slot holds a block
pub slot-start : (o : Parts) (inputs : List (List ℤ)) (k : ℕ) → slot (start_state o inputs) k ≡ Unbound
unfolding start_state
slot-start o inputs k =
    ⊎_elim (λ within. get_or-replicate 8 k Unbound Unbound within)
    (λ past. get_or_past (replicate 8 Unbound) k Unbound past) (cases_lt k 8)

-- at the start the place is 0
pub place-start : (o : Parts) (inputs : List (List ℤ)) → (start_state o inputs).place ≡ 0
unfolding start_state
place-start o inputs = refl

-- at the start the cycle is 0
pub cycle-start : (o : Parts) (inputs : List (List ℤ)) → (start_state o inputs).cycle ≡ 0
unfolding start_state
cycle-start o inputs = refl

-- a state at the start has the object's number of banks
pub length-start_banks : (o : Parts) (inputs : List (List ℤ)) → length (start_state o inputs).banks ≡ length o.banks
unfolding start_state start_banks
length-start_banks o inputs = length-map-range_with_len (start_bank o inputs) 0 (length o.banks)

-- a bank at the start
pub bank-start : (o : Parts) (inputs : List (List ℤ)) (b : ℕ) → b < length o.banks
    → bank_blocks (start_state o inputs) b ≡ start_bank o inputs b
unfolding start_state start_banks
bank-start o inputs b exists =
    get_or-map-range_with_len (start_bank o inputs) 0 (length o.banks) b b [] exists (omega arith)

-- a bank at the start has its number of blocks
pub length-start_bank : (o : Parts) (inputs : List (List ℤ)) (b : ℕ) → length (start_bank o inputs b) ≡ blocks_of o b
unfolding start_bank
length-start_bank o inputs b = length-map-range_with_len (start_block o inputs b) 0 (blocks_of o b)

pub start_bank-at : (o : Parts) (inputs : List (List ℤ)) (b a : ℕ) → a < blocks_of o b
    → get_or (start_bank o inputs b) a [] ≡ start_block o inputs b a
unfolding start_bank
start_bank-at o inputs b a within =
    get_or-map-range_with_len (start_block o inputs b) 0 (blocks_of o b) a a [] within (omega arith)

-- a block at the start
pub block-start : (o : Parts) (inputs : List (List ℤ)) (b a : ℕ) → b < length o.banks → a < blocks_of o b
    → block_at (start_state o inputs) b a ≡ start_block o inputs b a
block-start o inputs b a exists within =
    ap (λ bank. get_or bank a []) (bank-start o inputs b exists) ∙ start_bank-at o inputs b a within

pub length-start_block : (o : Parts) (inputs : List (List ℤ)) (b a : ℕ)
    → length (start_block o inputs b a) ≡ block_words o
unfolding start_block
length-start_block o inputs b a =
    length-map-range_with_len (λ i. start_word (block_words o) o.symbols inputs b (a * block_words o + i)) 0
    (block_words o)

-- a word of a block at the start, as a word of its bank
pub start_block-at : (o : Parts) (inputs : List (List ℤ)) (b a i : ℕ) → i < block_words o
    → word_in (start_block o inputs b a) i ≡ start_word (block_words o) o.symbols inputs b (a * block_words o + i)
unfolding start_block
start_block-at o inputs b a i within =
    get_or-map-range_with_len (λ i. start_word (block_words o) o.symbols inputs b (a * block_words o + i)) 0
    (block_words o) i i (pos 0) within (omega arith)

-- what a bank holds at the start are words
pub IsWord-start_word : (w : ℕ) (symbols : List Symbol) (inputs : List (List ℤ))
    → FitsWants (map want_of symbols) inputs → (b i : ℕ) → IsWord (start_word w symbols inputs b i)
unfolding start_word
IsWord-start_word w [] inputs fits b i = sfits_lit tt
IsWord-start_word w (s ∷ symbols) [] fits b i = sfits_lit tt
IsWord-start_word w (s ∷ symbols) (words ∷ inputs) fits b i =
    elim (covers w s b i) as (λ c.
    IsWord (cond c (get_or words (i - first_word w s) (pos 0)) (start_word w symbols inputs b i))) [
      | true ↦ IsWord-at words fits.1 (i - first_word w s)
      | false ↦ IsWord-start_word w symbols inputs fits.2 b i
    ]

pub IsBlock-start : (o : Parts) (inputs : List (List ℤ)) → FitsObject o inputs → (b a : ℕ)
    → IsBlock o (start_block o inputs b a)
IsBlock-start o inputs fits b a = record {
  size = length-start_block o inputs b a;
  all_words = All-from_get_or IsWord (start_block o inputs b a) (pos 0) (λ i within.
      subst IsWord
      (sym (start_block-at o inputs b a i (subst (λ n. i < n) (length-start_block o inputs b a) within)))
      (IsWord-start_word (block_words o) o.symbols inputs fits b (a * block_words o + i)));
}

-- the start has the shape of the object
pub IsShaped-start : (o : Parts) (inputs : List (List ℤ)) → FitsObject o inputs → IsShaped o (start_state o inputs)
unfolding start_state
IsShaped-start o inputs fits = record {
  register_count = length-replicate 32 (pos 0);
  registers = All-replicate IsWord 32 (pos 0) (sfits_lit tt);
  slot_count = length-replicate 8 Unbound;
  slots = All-replicate (SlotFits o) 8 Unbound tt;
  bank_count = length-start_banks o inputs;
  block_counts = λ b exists. ap length (bank-start o inputs b exists) ∙ length-start_bank o inputs b;
  blocks = λ b a exists within.
      subst (IsBlock o) (sym (block-start o inputs b a exists within)) (IsBlock-start o inputs fits b a);
}

map-same : {X Y : Type 0} (f g : X → Y) → ((x : X) → f x ≡ g x) → (xs : List X) → map f xs ≡ map g xs
map-same f g same [] = refl
map-same f g same (x ∷ xs) = ap (λ y. y ∷ map f xs) (same x) ∙ ap (λ ys. g x ∷ ys) (map-same f g same xs)

first-true : (p q : Bool) → (p && q) ≡ true → p ≡ true
first-true true q both = refl
first-true false q both = both

covers-bank : (w : ℕ) (s : Symbol) (b i : ℕ) → covers w s b i ≡ true → s.bank ≡ b
covers-bank w s b i taken = eqb-true s.bank b (first-true (s.bank == b) _ taken)

same_choice : (c : Bool) (x y : List ℤ) (k : ℕ) (p q : ℤ) → (c ≡ true → x ≡ y) → p ≡ q
    → cond c (get_or x k (pos 0)) p ≡ cond c (get_or y k (pos 0)) q
same_choice true x y k p q here there = ap (λ l. get_or l k (pos 0)) (here refl)
same_choice false x y k p q here there = there

-- inputs that agree have the same words for a first symbol that is public, and agree on the other symbols
agree_first : (s : Symbol) (symbols : List Symbol) (x y : List ℤ) (d e : List (List ℤ))
    → AgreeOn (s ∷ symbols) (x ∷ d) (y ∷ e) → s.label ≡ Public → x ≡ y
agree_first s symbols x y d e agree public =
    let same : ◌≡◌ {A = Option (List ℤ)} (Some x) (Some y) = agree 0 s refl public in cc

agree_rest : (s : Symbol) (symbols : List Symbol) (x y : List ℤ) (d e : List (List ℤ))
    → AgreeOn (s ∷ symbols) (x ∷ d) (y ∷ e) → AgreeOn symbols d e
agree_rest s symbols x y d e agree = λ k t is public. agree (suc k) t is public

-- if all symbols of a bank are public, inputs that agree give each of its words the same start
start_word-same : (w : ℕ) (symbols : List Symbol) (d e : List (List ℤ)) (b : ℕ) → FitsWants (map want_of symbols) d
    → FitsWants (map want_of symbols) e → AgreeOn symbols d e → All (λ s. s.bank ≡ b → s.label ≡ Public) symbols
    → (i : ℕ) → start_word w symbols d b i ≡ start_word w symbols e b i
unfolding start_word
start_word-same w [] d e b fits_d fits_e agree public i = refl
start_word-same w (s ∷ symbols) [] e b fits_d fits_e agree public i = absurd fits_d
start_word-same w (s ∷ symbols) (x ∷ d) [] b fits_d fits_e agree public i = absurd fits_e
start_word-same w (s ∷ symbols) (x ∷ d) (y ∷ e) b fits_d fits_e agree public i =
    same_choice (covers w s b i) x y (i - first_word w s) _ _
    (λ taken. agree_first s symbols x y d e agree (public 0 s (omega arith) (covers-bank w s b i taken)))
    (start_word-same w symbols d e b fits_d.2 fits_e.2 (agree_rest s symbols x y d e agree)
    (All-tail (λ s. s.bank ≡ b → s.label ≡ Public) s symbols public) i)

pub start_block-same : (o : Parts) (d e : List (List ℤ)) (b : ℕ) → Agree o d e
    → All (λ s. s.bank ≡ b → s.label ≡ Public) o.symbols → (a : ℕ) → start_block o d b a ≡ start_block o e b a
unfolding start_block
start_block-same o d e b agree public a =
    map-same _ _
    (λ i. start_word-same (block_words o) o.symbols d e b agree.first_fits agree.second_fits agree.public_words public
    (a * block_words o + i))
    (range_with_len 0 (block_words o))

-- if all symbols of a bank are public, inputs that agree give it the same start
pub start_bank-same : (o : Parts) (d e : List (List ℤ)) (b : ℕ) → Agree o d e
    → All (λ s. s.bank ≡ b → s.label ≡ Public) o.symbols → start_bank o d b ≡ start_bank o e b
unfolding start_bank
start_bank-same o d e b agree public =
    map-same _ _ (start_block-same o d e b agree public) (range_with_len 0 (blocks_of o b))
