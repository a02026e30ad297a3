-- There is no error of limits exactly if all limits are kept.
use Rattle.std.proofs.Common.{◌≡◌, ℕ, ◌+◌, ◌≤◌, nat_lt, nat_le, Bool, true, false, not, ◌&&◌, ◌||◌, List, [], ◌∷◌, Option, Some, None, refl, arith}
use Rattle.std.specs.List.{AllByRecursion}
use Rattle.std.proofs.lemmas.Bool.{ltb-false, le-ltb, leb-true, le-leb}
use Rattle.gr_word.specs.declared.variables.Label.{Label}
use Rattle.src_tree.specs.declared.trees.Decl.{Decl}
use Rattle.src_tree.specs.Prelude.{height_of, Tree, Statement, SetVariable, SetElement, Choice, Loop, Block, Nothing, Then, Context, inside, max_length, max_words, max_height, words_of, total_words, LengthFits, Low, LowStatement, LowBlock, shown_number, where_true, too_high, height_fault, length_fits, length_fault, words_fault, count_of, block_count, statement_fault, block_fault}
use Rattle.src_tree.specs.declared.faults.TypeError.{TypeError}
use Rattle.src_tree.specs.declared.faults.TypeError.TheVariants.{Limit}
use Rattle.src_tree.specs.declared.faults.Which.TheVariants.{ArrayLength, TotalWords, Height}
use Rattle.src_tree.proofs.Chains.{neither, chained, not_true, no_fault, both_false, neither_true}

-- lengths of arrays
both_true : (a b : Bool) → not (a && b) ≡ false → (a ≡ true) × (b ≡ true)
both_true true true e = (refl, refl)
both_true true false e = absurd cc
both_true false b e = absurd cc

true_back : (a b : Bool) → a ≡ true → b ≡ true → not (a && b) ≡ false
true_back true true e f = refl
true_back true false e f = absurd cc
true_back false b e f = absurd cc

pub length_is_fit : (length : Option ℕ) → not (length_fits length) ≡ false → LengthFits length
length_is_fit None e = tt
length_is_fit (Some n) e =
    let s = both_true (nat_le 1 n) (nat_le n max_length) e in (leb-true 1 n s.0, leb-true n max_length s.1)

pub fits_back : (length : Option ℕ) → LengthFits length → not (length_fits length) ≡ false
fits_back None h = refl
fits_back (Some n) h = true_back (nat_le 1 n) (nat_le n max_length) (le-leb 1 n h.0) (le-leb n max_length h.1)

-- if there is no error of lengths, each length is within the limits
pub lengths_fit : (n : ℕ) (ds : List Decl) → length_fault n ds ≡ None → AllByRecursion (λ d. LengthFits d.length) ds
lengths_fit n [] e = tt
lengths_fit n (d ∷ ds) e =
    let s = neither (where_true (not (length_fits d.length)) (Limit ArrayLength (shown_number n)))
    (length_fault (n + 1) ds) e in
    (length_is_fit d.length (not_true _ _ s.first), lengths_fit (n + 1) ds s.second)

-- if each length is within the limits, there is no error of lengths
pub lengths_back : (n : ℕ) (ds : List Decl) → AllByRecursion (λ d. LengthFits d.length) ds → length_fault n ds ≡ None
lengths_back n [] h = refl
lengths_back n (d ∷ ds) h =
    chained (where_true (not (length_fits d.length)) (Limit ArrayLength (shown_number n))) (length_fault (n + 1) ds)
    (no_fault _ _ (fits_back d.length h.0)) (lengths_back (n + 1) ds h.1)

-- if there is no error of words, all words together are within the limit
pub words_fit : (n before : ℕ) (ds : List Decl) → before ≤ max_words → words_fault n before ds ≡ None
    → before + total_words ds ≤ max_words
words_fit n before [] h e = omega arith
words_fit n before (d ∷ ds) h e =
    let s = neither (where_true (nat_lt max_words (before + words_of d)) (Limit TotalWords (shown_number n)))
    (words_fault (n + 1) (before + words_of d) ds) e in
    let k = words_fit (n + 1) (before + words_of d) ds
    (ltb-false max_words (before + words_of d) (not_true _ _ s.first)) s.second in
    omega arith

-- if all words together are within the limit, there is no error of words
pub words_back : (n before : ℕ) (ds : List Decl) → before + total_words ds ≤ max_words → words_fault n before ds ≡ None
words_back n before [] h = refl
words_back n before (d ∷ ds) h =
    chained (where_true (nat_lt max_words (before + words_of d)) (Limit TotalWords (shown_number n)))
    (words_fault (n + 1) (before + words_of d) ds)
    (no_fault _ _ (le-ltb max_words (before + words_of d) (omega arith)))
    (words_back (n + 1) (before + words_of d) ds (omega arith))

-- expressions within the height limit
low : (e : Tree) → too_high e ≡ false → Low e
low e h = ltb-false max_height (height_of e) h

low_back : (e : Tree) → Low e → too_high e ≡ false
low_back e h = le-ltb max_height (height_of e) h

both_low : (a b : Tree) (e : TypeError) → where_true (too_high a || too_high b) e ≡ None → Low a × Low b
both_low a b e h = let s = both_false (too_high a) (too_high b) (not_true _ _ h) in (low a s.first, low b s.second)

both_back : (a b : Tree) (e : TypeError) → Low a → Low b → where_true (too_high a || too_high b) e ≡ None
both_back a b e h k = no_fault _ _ (neither_true (too_high a) (too_high b) (low_back a h) (low_back b k))

mutual
  pub statement_low : (known : Context) (code : Label) (n : ℕ) (s : Statement)
      → statement_fault known height_fault code n s ≡ None → LowStatement s
  statement_low known code n (SetVariable x e) f = low e (not_true _ _ f)
  statement_low known code n (SetElement x i e) f = both_low i e _ f
  statement_low known code n (Choice t a b) f =
      let arms = inside known code t in
      let g = neither (height_fault code n (Choice t a b)) _ f in
      let h = neither (block_fault known height_fault arms (n + 1) a)
      (block_fault known height_fault arms ((n + 1) + block_count a) b) g.second in (
        both_low t.left t.right _ g.first,
        (block_low known arms (n + 1) a h.first, block_low known arms ((n + 1) + block_count a) b h.second),
      )
  statement_low known code n (Loop t a) f =
      let g = neither (height_fault code n (Loop t a)) (block_fault known height_fault code (n + 1) a) f in
      (both_low t.left t.right _ g.first, block_low known code (n + 1) a g.second)

  -- a block without an error of heights is within the limit
  pub block_low : (known : Context) (code : Label) (n : ℕ) (b : Block) → block_fault known height_fault code n b ≡ None
      → LowBlock b
  block_low known code n Nothing f = tt
  block_low known code n (Then s rest) f =
      let g = neither (statement_fault known height_fault code n s)
      (block_fault known height_fault code (n + count_of s) rest) f in
      (statement_low known code n s g.first, block_low known code (n + count_of s) rest g.second)

mutual
  pub statement_low_back : (known : Context) (code : Label) (n : ℕ) (s : Statement) → LowStatement s
      → statement_fault known height_fault code n s ≡ None
  statement_low_back known code n (SetVariable x e) h = no_fault _ _ (low_back e h)
  statement_low_back known code n (SetElement x i e) h = both_back i e (Limit Height (shown_number n)) h.0 h.1
  statement_low_back known code n (Choice t a b) h =
      let arms = inside known code t in
      chained (height_fault code n (Choice t a b)) _
      (both_back t.left t.right (Limit Height (shown_number n)) h.0.0 h.0.1)
      (chained (block_fault known height_fault arms (n + 1) a)
      (block_fault known height_fault arms ((n + 1) + block_count a) b)
      (block_low_back known arms (n + 1) a h.1.0) (block_low_back known arms ((n + 1) + block_count a) b h.1.1))
  statement_low_back known code n (Loop t a) h =
      chained (height_fault code n (Loop t a)) (block_fault known height_fault code (n + 1) a)
      (both_back t.left t.right (Limit Height (shown_number n)) h.0.0 h.0.1) (block_low_back known code (n + 1) a h.1)

  -- a block within the limit has no error of heights
  pub block_low_back : (known : Context) (code : Label) (n : ℕ) (b : Block) → LowBlock b
      → block_fault known height_fault code n b ≡ None
  block_low_back known code n Nothing h = refl
  block_low_back known code n (Then s rest) h =
      chained (statement_fault known height_fault code n s) (block_fault known height_fault code (n + count_of s) rest)
      (statement_low_back known code n s h.0) (block_low_back known code (n + count_of s) rest h.1)
