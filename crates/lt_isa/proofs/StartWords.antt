-- The words of a bank at the start are those of the symbols that take them.
use Rattle.std.proofs.Common.{◌≡◌, ℕ, zero, suc, ◌-◌, ◌*◌, ◌/◌, ◌%◌, ◌<◌, ◌≤◌, Bool, true, false, cond, ◌==◌, ℤ, pos, List, [], ◌∷◌, length, map, get_or, refl, sym, ap, ◌∙◌, arith}
use Rattle.std.specs.Prelude.{◌&&◌, nat_le, nat_lt, Contains}
use Rattle.std.proofs.lemmas.Bool.{and_parts, and_from, eqb-true, eq-eqb, leb-true, le-leb, ltb-true, lt-ltb}
use Rattle.std.proofs.lemmas.Nat.{div-add-mod', pow_pos}
use Rattle.std.proofs.Math.Nat.{div-lt_iff_lt-mul, mod-lt}
use Rattle.lt_isa.specs.declared.symbols.Symbol.{Symbol}
use Rattle.lt_isa.specs.Prelude.{Parts, block_words, blocks_of, first_word, end_word, word_in, bank_word_numbered, covers, start_word, start_state}
use Rattle.lt_isa.proofs.Starts.{block-start, start_block-at}

-- a symbol takes word number `at` of a bank
pub record Takes (w : ℕ) (s : Symbol) (bank at : ℕ) : Type 0 where
  pub bank_is : s.bank ≡ bank
  pub behind : first_word w s ≤ at
  pub before : at < end_word w s

pub covers-takes : (w : ℕ) (s : Symbol) (bank at : ℕ) → covers w s bank at ≡ true → Takes w s bank at
covers-takes w s bank at taken =
    let parts = and_parts (s.bank == bank) (nat_le (first_word w s) at && nat_lt at (end_word w s)) taken in
    let ends = and_parts (nat_le (first_word w s) at) (nat_lt at (end_word w s)) parts.1 in
    record {
      bank_is = eqb-true s.bank bank parts.0;
      behind = leb-true (first_word w s) at ends.0;
      before = ltb-true at (end_word w s) ends.1;
    }

pub takes-covers : (w : ℕ) (s : Symbol) (bank at : ℕ) → Takes w s bank at → covers w s bank at ≡ true
takes-covers w s bank at takes =
    and_from (s.bank == bank) (nat_le (first_word w s) at && nat_lt at (end_word w s))
    (eq-eqb s.bank bank takes.bank_is)
    (and_from (nat_le (first_word w s) at) (nat_lt at (end_word w s)) (le-leb (first_word w s) at takes.behind)
    (lt-ltb at (end_word w s) takes.before))

-- if exactly one symbol takes a word, the word is that symbol's
pub start_word-taken : (w : ℕ) (symbols : List Symbol) (words : Symbol → List ℤ) (s : Symbol) (bank at : ℕ)
    → Contains symbols s → Takes w s bank at
    → ((k : ℕ) (d : Symbol) → k < length symbols → Takes w (get_or symbols k d) bank at → get_or symbols k d ≡ s)
    → start_word w symbols (map words symbols) bank at ≡ get_or (words s) (at - first_word w s) (pos 0)
unfolding start_word
start_word-taken w [] words s bank at has takes alone = absurd (omega (arith, has.1))
start_word-taken w (x ∷ symbols) words s bank at has takes alone =
    by (covers w x bank at) refl (λ other. start_word-taken w symbols words s bank at
    (later has.0 has.1 has.2 other) takes (λ k d within taken. alone (suc k) d (omega arith) taken))
  where
    later : (k : ℕ) → k < length (x ∷ symbols) → get_or (x ∷ symbols) k s ≡ s → covers w x bank at ≡ false
        → Contains symbols s
    later zero within is other =
        absurd (let f : true ≡ false = sym (takes-covers w s bank at takes) ∙ ap (λ t. covers w t bank at) (sym is)
        ∙ other in cc)
    later (suc k) within is other = (k, omega arith, is)

    by : (c : Bool) → covers w x bank at ≡ c
        → (covers w x bank at ≡ false → start_word w symbols (map words symbols) bank at
        ≡ get_or (words s) (at - first_word w s) (pos 0))
        → cond c (get_or (words x) (at - first_word w x) (pos 0)) (start_word w symbols (map words symbols) bank at)
        ≡ get_or (words s) (at - first_word w s) (pos 0)
    by true is rest =
        ap (λ t. get_or (words t) (at - first_word w t) (pos 0)) (alone 0 s (omega arith) (covers-takes w x bank at is))
    by false is rest = rest is

-- the word of a bank at the start, by its number
pub bank_word-start : (o : Parts) (inputs : List (List ℤ)) (bank at : ℕ) → bank < length o.banks
    → at < blocks_of o bank * block_words o
    → bank_word_numbered (block_words o) (start_state o inputs) bank at
    ≡ start_word (block_words o) o.symbols inputs bank at
bank_word-start o inputs bank at exists within =
    let w = block_words o in
    let some = pow_pos o.profile.block_log in
    let block : at / w < blocks_of o bank = (div-lt_iff_lt-mul {k = w} {x = at} {y = blocks_of o bank} some).1 within in
    ap (λ words. word_in words (at % w)) (block-start o inputs bank (at / w) exists block)
    ∙ start_block-at o inputs bank (at / w) (at % w) (mod-lt at some)
    ∙ ap (start_word w o.symbols inputs bank) (div-add-mod' at w)

-- a word that no symbol takes is 0
pub start_word-free : (w : ℕ) (symbols : List Symbol) (words : Symbol → List ℤ) (bank at : ℕ)
    → ((k : ℕ) (d : Symbol) → k < length symbols → Takes w (get_or symbols k d) bank at → ⊥)
    → start_word w symbols (map words symbols) bank at ≡ pos 0
unfolding start_word
start_word-free w [] words bank at free = refl
start_word-free w (s ∷ symbols) words bank at free =
    by (covers w s bank at) refl (start_word-free w symbols words bank at (λ k d within. free (suc k) d (omega arith)))
  where
    by : (c : Bool) → covers w s bank at ≡ c → start_word w symbols (map words symbols) bank at ≡ pos 0
        → cond c (get_or (words s) (at - first_word w s) (pos 0)) (start_word w symbols (map words symbols) bank at)
        ≡ pos 0
    by true is rest = absurd (free 0 s (omega arith) (covers-takes w s bank at is))
    by false is rest = rest
