-- Which expressions and statements show the same events in secret code, so that two of them may be at one place of the
-- two arms of a branch on a secret, and how many statements of two parts pair. (This project's own padding.)
use Rattle.std.specs.Prelude.{length, ◌≡◌, ℕ, ◌+◌, ◌<◌, ◌≤◌, ℤ, Bool, true, false, not, ◌&&◌, ◌||◌, ◌==◌, nat_le, nat_lt, is_some, if◌then◌else◌, pos, List, bytes_eq}
use Rattle.std.specs.Ordering.{int_eq}
use Rattle.gr_word.specs.declared.operations.Op.{Op}
use Rattle.symbolic_values.specs.Sameness.{same_op}
use Rattle.src_tree.specs.Trees.{Tree, Number, Variable, Element, Operation, Statement, SetVariable, SetElement, Block, Then}
use Rattle.block_cache_gen.specs.Homes.{further_slots, Home, Setting, home_of}
use Rattle.block_cache_gen.specs.Codes.{is_cached, is_masked, is_within_home, may_step, operand, held_number, reducer, straight}
pub use Rattle.block_cache_gen.specs.Codes.{is_product}

-- registers hold two numbers for the whole run, or neither
abbrev pub AreNumbersAlike : Setting → (y z : ℤ) → Type 0
AreNumbersAlike f y z = is_some (held_number f y) ≡ is_some (held_number f z)

-- two arrays are in one oblivious bank, and the numbers of their code are held alike
pub record InOneBank (f : Setting) (x y : List ℕ) : Type 0 where
  pub oblivious : 2 ≤ (home_of f x).bank
  pub same : (home_of f x).bank ≡ (home_of f y).bank
  pub reduced : AreNumbersAlike f (reducer (home_of f x)) (reducer (home_of f y))
  pub blocks : AreNumbersAlike f (pos (home_of f x).block) (pos (home_of f y).block)

-- registers hold two numbers or scalars for the whole run, or neither
abbrev pub AreHeldAlike : Setting → Tree → Tree → Type 0
AreHeldAlike f a b = is_some (operand f a) ≡ is_some (operand f b)

-- Two indexes of arrays are known to be below the lengths; or neither is, and the operations that reduce them and the
-- numbers of these are alike.
pub record AreBothReduced (f : Setting) (x y : List ℕ) (i j : Tree) : Type 0 where
  pub first : is_within_home f (home_of f x) i ≡ false
  pub second : is_within_home f (home_of f y) j ≡ false
  pub masked : is_masked (home_of f x) ≡ is_masked (home_of f y)
  pub reduced : AreNumbersAlike f (reducer (home_of f x)) (reducer (home_of f y))

pub data AreNumberedAlike (f : Setting) (x y : List ℕ) (i j : Tree) : Type 0 where
  BothWithin : is_within_home f (home_of f x) i ≡ true → is_within_home f (home_of f y) j ≡ true
      → AreNumberedAlike f x y i j
  BothReduced : AreBothReduced f x y i j → AreNumberedAlike f x y i j

-- two resident arrays of as many blocks, whose indexes are reduced alike, and whose first words both are 0, or neither is
pub record AreReducedAlike (f : Setting) (x y : List ℕ) (i j : Tree) : Type 0 where
  pub first : (home_of f x).resident ≡ true
  pub second : (home_of f y).resident ≡ true
  pub low : is_cached (home_of f x) ≡ is_cached (home_of f y)
  pub offset : ((home_of f x).word == 0) ≡ ((home_of f y).word == 0)
  pub numbered : AreNumberedAlike f x y i j
  pub words : AreNumbersAlike f (pos (home_of f x).word) (pos (home_of f y).word)
  pub blocks : length (further_slots (home_of f x)) ≡ length (further_slots (home_of f y))

-- Two expressions are alike if both are numbers, or both scalars, and registers hold both or neither; or elements with
-- alike indexes, of one oblivious bank or of resident arrays whose indexes are reduced alike; or elements of one array of
-- plain or encrypted memory with the same index; or operations that no steps may replace, both products or neither, on
-- alike parts; or the same operation by the same number, on an alike left side.
pub data Alike (f : Setting) : Tree → Tree → Type 0 where
  Numbers : (y z : ℤ) → AreHeldAlike f (Number y) (Number z) → Alike f (Number y) (Number z)
  Scalars : (x y : List ℕ) → AreHeldAlike f (Variable x) (Variable y) → Alike f (Variable x) (Variable y)
  Oblivious : (x y : List ℕ) (i j : Tree) → InOneBank f x y → Alike f i j → Alike f (Element x i) (Element y j)
  Residents : (x y : List ℕ) (i j : Tree) → AreReducedAlike f x y i j → Alike f i j
      → Alike f (Element x i) (Element y j)
  Same : (x : List ℕ) (i : Tree) → (home_of f x).bank < 2 → Alike f (Element x i) (Element x i)
  Operations : (op oq : Op) (a b c d : Tree) → may_step f op b ≡ false → may_step f oq d ≡ false
      → is_product op ≡ is_product oq → Alike f a c → Alike f b d → Alike f (Operation op a b) (Operation oq c d)
  ByNumber : (op : Op) (a c : Tree) (z : ℤ)
      → Alike f a c → Alike f (Operation op a (Number z)) (Operation op c (Number z))

-- the last instruction of the values of two scalars leaves each in its register, or neither does
abbrev pub AreBothStraight : Setting → (x y : List ℕ) → (e g : Tree) → Type 0
AreBothStraight f x y e g = is_some (straight f x e) ≡ is_some (straight f y g)

-- Two assignments pair if both are to scalars, of alike expressions, both straight or neither; or to elements, of alike
-- expressions: with alike indexes, of one oblivious bank or of resident arrays whose indexes are reduced alike; or with
-- the same index, of one array of encrypted memory.
pub data Pair (f : Setting) : Statement → Statement → Type 0 where
  ToScalars : (x y : List ℕ) (e g : Tree)
      → AreHeldAlike f (Variable x) (Variable y) → AreBothStraight f x y e g → Alike f e g
      → Pair f (SetVariable x e) (SetVariable y g)
  ToOblivious : (x y : List ℕ) (i j e g : Tree) → InOneBank f x y → Alike f i j → Alike f e g
      → Pair f (SetElement x i e) (SetElement y j g)
  ToResidents : (x y : List ℕ) (i j e g : Tree) → AreReducedAlike f x y i j → Alike f i j → Alike f e g
      → Pair f (SetElement x i e) (SetElement y j g)
  ToSame : (x : List ℕ) (i e g : Tree) → (home_of f x).bank ≡ 1 → Alike f e g
      → Pair f (SetElement x i e) (SetElement x i g)

-- this many of the first statements of two parts pair
pub data StartsPaired (f : Setting) : ℕ → Block → Block → Type 0 where
  NonePaired : (a b : Block) → StartsPaired f 0 a b
  OnePaired : (k : ℕ) (s t : Statement) (a b : Block)
      → Pair f s t → StartsPaired f k a b → StartsPaired f (k + 1) (Then s a) (Then t b)

-- the most that pair
pub record IsPairCount (f : Setting) (a b : Block) (k : ℕ) : Type 0 where
  pub pairs : StartsPaired f k a b
  pub most : (j : ℕ) → StartsPaired f j a b → j ≤ k

-- the same as tests: two expressions as they stand
abbrev pub is_same : Tree → Tree → Bool
is_same (Number y) (Number z) = int_eq y z
is_same (Variable x) (Variable y) = bytes_eq x y
is_same (Element x i) (Element y j) = bytes_eq x y && is_same i j
is_same (Operation op a b) (Operation oq c d) = same_op op oq && (is_same a c && is_same b d)
is_same _ _ = false

-- both are true, or neither is
abbrev pub same_flag : Bool → Bool → Bool
same_flag a b = if a then b else not b

abbrev pub held_alike : Setting → Tree → Tree → Bool
held_alike f a b = same_flag (is_some (operand f a)) (is_some (operand f b))

abbrev pub numbers_alike : Setting → (y z : ℤ) → Bool
numbers_alike f y z = same_flag (is_some (held_number f y)) (is_some (held_number f z))

abbrev pub in_one_bank : Setting → Home → Home → Bool
in_one_bank f g h =
    nat_le 2 g.bank
    && ((g.bank == h.bank)
    && (numbers_alike f (reducer g) (reducer h) && numbers_alike f (pos g.block) (pos h.block)))

abbrev pub both_products : Op → Op → Bool
both_products op oq = if is_product op then is_product oq else not (is_product oq)

abbrev pub numbered_alike : Setting → Home → Home → (within other : Bool) → Bool
numbered_alike f g h true other = other
numbered_alike f g h false true = false
numbered_alike f g h false false = same_flag (is_masked g) (is_masked h) && numbers_alike f (reducer g) (reducer h)

abbrev pub reduced_alike : Setting → Home → Home → Tree → Tree → Bool
reduced_alike f g h i j =
    g.resident
    && (h.resident
    && (same_flag (is_cached g) (is_cached h)
    && (same_flag (g.word == 0) (h.word == 0)
    && (numbered_alike f g h (is_within_home f g i) (is_within_home f h j)
    && (numbers_alike f (pos g.word) (pos h.word)
    && (length (further_slots g) == length (further_slots h)))))))

-- elements of two arrays with alike indexes are alike
abbrev pub in_step : Setting → Home → Home → Tree → Tree → Bool
in_step f g h i j = in_one_bank f g h || reduced_alike f g h i j

-- no steps replace either of two operations
abbrev pub are_plain : Setting → Op → Tree → Op → Tree → Bool
are_plain f op b oq d = not (may_step f op b) && not (may_step f oq d)

-- the same operation by the same number
abbrev pub is_same_number : Tree → Tree → Bool
is_same_number (Number y) (Number z) = int_eq y z
is_same_number _ _ = false

abbrev pub by_same_number : Op → Tree → Op → Tree → Bool
by_same_number op b oq d = same_op op oq && is_same_number b d

abbrev pub is_alike : Setting → Tree → Tree → Bool
is_alike f (Number y) (Number z) = held_alike f (Number y) (Number z)
is_alike f (Variable x) (Variable y) = held_alike f (Variable x) (Variable y)
is_alike f (Element x i) (Element y j) =
    (in_step f (home_of f x) (home_of f y) i j && is_alike f i j)
    || (nat_lt (home_of f x).bank 2 && (bytes_eq x y && is_same i j))
is_alike f (Operation op a b) (Operation oq c d) =
    is_alike f a c
    && (by_same_number op b oq d || (are_plain f op b oq d && (both_products op oq && is_alike f b d)))
is_alike f _ _ = false

abbrev pub straight_alike : Setting → (x y : List ℕ) → (e g : Tree) → Bool
straight_alike f x y e g = same_flag (is_some (straight f x e)) (is_some (straight f y g))

abbrev pub is_pair : Setting → Statement → Statement → Bool
is_pair f (SetVariable x e) (SetVariable y g) =
    held_alike f (Variable x) (Variable y) && (straight_alike f x y e g && is_alike f e g)
is_pair f (SetElement x i e) (SetElement y j g) =
    is_alike f e g
    && ((in_step f (home_of f x) (home_of f y) i j && is_alike f i j)
    || (((home_of f x).bank == 1) && (bytes_eq x y && is_same i j)))
is_pair f _ _ = false

abbrev pub pair_count : Setting → Block → Block → ℕ
pair_count f (Then s a) (Then t b) = if is_pair f s t then pair_count f a b + 1 else 0
pair_count f _ _ = 0
