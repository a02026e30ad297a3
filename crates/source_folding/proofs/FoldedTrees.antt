-- What folding makes of an expression has the same value, the same label and the same types, and isn't larger.
use Rattle.std.proofs.Common.{◌≡◌, ℕ, zero, suc, ◌+◌, ◌-◌, ◌*◌, ◌%◌, ◌^◌, ◌<◌, ◌≤◌, max, Bool, true, false, cond, ◌==◌, ℤ, pos, Option, Some, None, List, [], ◌∷◌, length, get_or, refl, sym, ap, ◌∙◌, subst, ⊎_elim, arith, w64}
use Rattle.std.specs.Prelude.{find}
use Rattle.std.specs.Int.{cast_signed, int_wrap}
use Rattle.std.specs.List.{range_with_len}
use Rattle.std.proofs.Math.IntN.{*ℤ_comm}
use Rattle.std.proofs.lemmas.Bool.{cases_lt, eqb-true}
use Rattle.std.proofs.lemmas.Int.{to_z_pos, wrapping_mul_is}
use Rattle.std.proofs.Math.Facts.{sfits_lit}
use Rattle.std.proofs.lemmas.List.{get_or_past}
use Rattle.std.proofs.lemmas.List.Elements.{All-get_or}
use Rattle.std.proofs.lemmas.Nat.{pow_pos, pow_below}
use Rattle.gr_word.specs.Prelude.{IsWord, applied, unsigned_of, AreWords, FitsWants}
use Rattle.gr_word.specs.declared.variables.Want.{Want}
use Rattle.gr_word.proofs.Words.{IsWord-applied}
use Rattle.gr_word.specs.declared.operations.Op.{Op}
use Rattle.gr_word.specs.declared.operations.Op.TheVariants.{Add, Sub, Mul, Div, Rem, Remu, And, Or, Xor, Shl, Shr}
use Rattle.gr_word.specs.declared.variables.Label.{Label}
use Rattle.gr_word.specs.declared.variables.Label.TheVariants.{Public, Secret}
use Rattle.gr_word.proofs.SmallNumbers.{remu_small, and_small}
use Rattle.src_tree.specs.declared.trees.Decl.{Decl}
use Rattle.src_tree.specs.Prelude.{Context, height_of, higher, label_at, label_of, tree_weight, Store, element, evaluated, variable_number, words_of_number, Tree, Number, Variable, Element, Operation, TypedTree, Flows}
use Rattle.source_folding.specs.Prelude.{number_of, is_product, is_remainder, power_of, mask_of, by_power, by_right, by_numbers, operation, folded, NumbersFit}

-- an expression that is a number
pub is-number : (a : Tree) (z : ℤ) → number_of a ≡ Some z → a ≡ Number z
is-number (Number y) z e = ap Number (some-same y z e)
  where
    some-same : (y z : ℤ) → Some y ≡ Some z → y ≡ z
    some-same y z e = cc
is-number other z e = absurd (let f : ◌≡◌ {A = Option ℤ} None (Some z) = e in cc)

-- which operation is a product, and which a remainder
product-is : (op : Op) → is_product op ≡ true → op ≡ Mul
product-is Mul e = refl
product-is other e = absurd (let f : ◌≡◌ {A = Bool} false true = e in cc)

remainder-is : (op : Op) → is_remainder op ≡ true → op ≡ Remu
remainder-is Remu e = refl
remainder-is other e = absurd (let f : ◌≡◌ {A = Bool} false true = e in cc)

-- a power of two
pub record IsPower (z : ℤ) (k : ℕ) : Type 0 where
  pub few : k < 63
  pub power : unsigned_of z ≡ 2 ^ k

-- the number that is found in a range is in it, and passes the test
found-is : (p : ℕ → Bool) (a n k : ℕ) → find p (range_with_len a n) ≡ Some k → (k < a + n) × (p k ≡ true)
found-is p a zero k e = absurd (let f : ◌≡◌ {A = Option ℕ} None (Some k) = e in cc)
found-is p a (suc n) k e =
    first-found p a n k (found-is p (a + 1) n k) (p a) refl e
  where
    first-found : (p : ℕ → Bool) (a n k : ℕ)
        → (find p (range_with_len (a + 1) n) ≡ Some k → (k < a + 1 + n) × (p k ≡ true))
        → (b : Bool) → p a ≡ b → cond b (Some a) (find p (range_with_len (a + 1) n)) ≡ Some k
        → (k < a + suc n) × (p k ≡ true)
    first-found p a n k later true is e =
        let same : a ≡ k = cc in
        (omega arith, ap p (sym same) ∙ is)
    first-found p a n k later false is e = let h = later e in (let low = h.0 in omega arith, h.1)

power-is : (z : ℤ) (k : ℕ) → power_of (unsigned_of z) ≡ Some k → IsPower z k
unfolding power_of
power-is z k e =
    let found = found-is (λ k. 2 ^ k == unsigned_of z) 0 63 k e in
    record {
      few = let low = found.0 in omega arith;
      power = sym (eqb-true (2 ^ k) (unsigned_of z) found.1);
    }

-- what an operation on folded expressions may be
pub data Made (op : Op) (a b : Tree) : Tree → Type 0 where
  AsBefore : Made op a b (Operation op a b)
  Computed : (y z : ℤ) → a ≡ Number y → b ≡ Number z → Made op a b (Number (applied op y z))
  Swapped : op ≡ Mul → Made op a b (Operation op b a)
  SwappedShift : (y : ℤ) (k : ℕ) → a ≡ Number y → op ≡ Mul → IsPower y k → Made op a b (Operation Shl b (Number (pos k)))
  Shifted : (z : ℤ) (k : ℕ) → b ≡ Number z → op ≡ Mul → IsPower z k → Made op a b (Operation Shl a (Number (pos k)))
  Masked : (z : ℤ) (k : ℕ) → b ≡ Number z → op ≡ Remu → IsPower z k
      → Made op a b (Operation And a (Number (mask_of z)))

turned-made : (op : Op) (a b : Tree) (y : ℤ) → a ≡ Number y → is_product op ≡ true → (k : Option ℕ)
    → power_of (unsigned_of y) ≡ k → Made op a b (by_power op b y a k)
turned-made op a b y is product None e = Swapped (product-is op product)
turned-made op a b y is product (Some k) e =
    subst (λ (s : Bool). Made op a b (cond s (Operation Shl b (Number (pos k)))
    (cond (is_remainder op) (Operation And b (Number (mask_of y))) (Operation op b a))))
    (sym product) (SwappedShift y k is (product-is op product) (power-is y k e))

left-made : (op : Op) (a b : Tree) (y : ℤ) → a ≡ Number y → (s : Bool) → is_product op ≡ s
    → Made op a b (cond s (by_right op b y a) (Operation op a b))
left-made op a b y is true e = turned-made op a b y is e (power_of (unsigned_of y)) refl
left-made op a b y is false e = AsBefore

remainder-made : (op : Op) (a b : Tree) (z : ℤ) (k : ℕ) → b ≡ Number z → IsPower z k → (s : Bool) → is_remainder op ≡ s
    → Made op a b (cond s (Operation And a (Number (mask_of z))) (Operation op a b))
remainder-made op a b z k is power true e = Masked z k is (remainder-is op e) power
remainder-made op a b z k is power false e = AsBefore

product-made : (op : Op) (a b : Tree) (z : ℤ) (k : ℕ) → b ≡ Number z → IsPower z k → (s : Bool) → is_product op ≡ s
    → Made op a b (cond s (Operation Shl a (Number (pos k)))
    (cond (is_remainder op) (Operation And a (Number (mask_of z))) (Operation op a b)))
product-made op a b z k is power true e = Shifted z k is (product-is op e) power
product-made op a b z k is power false e = remainder-made op a b z k is power (is_remainder op) refl

right-made : (op : Op) (a b : Tree) (z : ℤ) → b ≡ Number z → (k : Option ℕ) → power_of (unsigned_of z) ≡ k
    → Made op a b (by_power op a z b k)
right-made op a b z is None e = AsBefore
right-made op a b z is (Some k) e = product-made op a b z k is (power-is z k e) (is_product op) refl

numbers-made : (op : Op) (a b : Tree) (y z : Option ℤ) → number_of a ≡ y → number_of b ≡ z
    → Made op a b (by_numbers op a b y z)
numbers-made op a b (Some y) (Some z) e f = Computed y z (is-number a y e) (is-number b z f)
numbers-made op a b (Some y) None e f = left-made op a b y (is-number a y e) (is_product op) refl
numbers-made op a b None (Some z) e f = right-made op a b z (is-number b z f) (power_of (unsigned_of z)) refl
numbers-made op a b None None e f = AsBefore

pub is-made : (op : Op) (a b : Tree) → Made op a b (operation op a b)
is-made op a b = numbers-made op a b (number_of a) (number_of b) refl refl

-- a mask leaves the remainder
cast-below : (n : ℕ) → n < 2 ^ 63 → cast_signed w64 n ≡ pos n
cast-below n below = to_z_pos w64 n below

mask-small : (k : ℕ) → k < 63 → 2 ^ k - 1 < 2 ^ 63
mask-small k few = let most : 2 ^ k < 2 ^ 63 = pow_below k 63 few in omega arith

pub masked-value : (a z : ℤ) (k : ℕ) → k < 63 → unsigned_of z ≡ 2 ^ k → applied And a (mask_of z) ≡ applied Remu a z
masked-value a z k few is =
    let least : 0 < 2 ^ k = pow_pos k in
    let most : 2 ^ k < 2 ^ 63 = pow_below k 63 few in
    ap (λ n. applied And a (cast_signed w64 (n - 1))) is
    ∙ ap (applied And a) (cast-below (2 ^ k - 1) (mask-small k few))
    ∙ and_small a k few
    ∙ sym (remu_small a (2 ^ k) (omega arith) most)
    ∙ sym (ap (λ n. cond (n == 0) a (cast_signed w64 (unsigned_of a % n))) is)

-- a shift is a product by a power of two
pub shifted-value : (a z : ℤ) (k : ℕ) → IsWord a → IsWord z → k < 63 → unsigned_of z ≡ 2 ^ k
    → applied Shl a (pos k) ≡ applied Mul a z
shifted-value a z k first second few is =
    let small : k % 64 ≡ k = omega arith in
    ap (λ n. cast_signed w64 ((unsigned_of a * 2 ^ n) % 2 ^ 64)) small
    ∙ ap (λ n. cast_signed w64 ((unsigned_of a * n) % 2 ^ 64)) (sym is)
    ∙ wrapping_mul_is w64 a z first second

-- the words of a store of words, and the value of an expression over one
named-words : (wants : List Want) (store : Store) → FitsWants wants store → (k : ℕ)
    → AreWords (words_of_number store k)
named-words [] [] fits k = λ i z at. absurd (omega (arith, at))
named-words [] (words ∷ store) fits k = absurd fits
named-words (want ∷ wants) [] fits k = absurd fits
named-words (want ∷ wants) (words ∷ store) fits zero = fits.1
named-words (want ∷ wants) (words ∷ store) fits (suc k) = named-words wants store fits.2 k

word-at : (words : List ℤ) → AreWords words → (i : ℕ) → IsWord (get_or words i (pos 0))
word-at words are i =
    ⊎_elim (λ (below : i < length words). All-get_or IsWord words i (pos 0) below are)
    (λ (past : length words ≤ i). subst IsWord (sym (get_or_past words i (pos 0) past)) (sfits_lit tt))
    (cases_lt i (length words))

module _ (decls : List Decl) (wants : List Want) (store : Store) (fits : FitsWants wants store) where
  pub value-word : (e : Tree) → NumbersFit e → IsWord (evaluated decls store e)
  value-word (Number z) is = is
  value-word (Variable x) is = word-at _ (named-words wants store fits (variable_number decls x)) 0
  value-word (Element x i) is = word-at _ (named-words wants store fits (variable_number decls x)) _
  value-word (Operation op a b) is =
      IsWord-applied op (evaluated decls store a) (evaluated decls store b) (value-word a is.0) (value-word b is.1)

  -- the value
  made-value : (op : Op) (a b m : Tree) → Made op a b m → IsWord (evaluated decls store a)
      → IsWord (evaluated decls store b)
      → evaluated decls store m ≡ applied op (evaluated decls store a) (evaluated decls store b)
  made-value op a b _ AsBefore first second = refl
  made-value op a b _ (Computed y z e f) first second =
      ap (λ u. applied op u z) (sym (ap (evaluated decls store) e))
      ∙ ap (applied op (evaluated decls store a)) (sym (ap (evaluated decls store) f))
  made-value op a b _ (Swapped e) first second =
      ap (λ o. applied o (evaluated decls store b) (evaluated decls store a)) e
      ∙ ap (int_wrap w64) (*ℤ_comm (evaluated decls store b) (evaluated decls store a))
      ∙ sym (ap (λ o. applied o (evaluated decls store a) (evaluated decls store b)) e)
  made-value op a b _ (SwappedShift y k f e is) first second =
      shifted-value (evaluated decls store b) y k second (subst IsWord (ap (evaluated decls store) f) first) is.few
      is.power
      ∙ ap (int_wrap w64) (*ℤ_comm (evaluated decls store b) y)
      ∙ sym (ap (λ o. applied o y (evaluated decls store b)) e)
      ∙ ap (λ w. applied op w (evaluated decls store b)) (sym (ap (evaluated decls store) f))
  made-value op a b _ (Shifted z k f e is) first second =
      shifted-value (evaluated decls store a) z k first (subst IsWord (ap (evaluated decls store) f) second) is.few
      is.power
      ∙ sym (ap (λ o. applied o (evaluated decls store a) z) e)
      ∙ ap (applied op (evaluated decls store a)) (sym (ap (evaluated decls store) f))
  made-value op a b _ (Masked z k f e is) first second =
      masked-value (evaluated decls store a) z k is.few is.power
      ∙ sym (ap (λ o. applied o (evaluated decls store a) z) e)
      ∙ ap (applied op (evaluated decls store a)) (sym (ap (evaluated decls store) f))

  pub folded-value : (e : Tree) → NumbersFit e → evaluated decls store (folded e) ≡ evaluated decls store e
  folded-value (Number z) is = refl
  folded-value (Variable x) is = refl
  folded-value (Element x i) is = ap (element store (variable_number decls x)) (folded-value i is)
  folded-value (Operation op a b) is =
      let first = folded-value a is.0 in
      let second = folded-value b is.1 in
      made-value op (folded a) (folded b) _ (is-made op (folded a) (folded b))
      (subst IsWord (sym first) (value-word a is.0)) (subst IsWord (sym second) (value-word b is.1))
      ∙ ap (λ z. applied op z (evaluated decls store (folded b))) first
      ∙ ap (applied op (evaluated decls store a)) second

higher-swapped : (l m : Label) → higher l m ≡ higher m l
higher-swapped Public Public = refl
higher-swapped Public Secret = refl
higher-swapped Secret Public = refl
higher-swapped Secret Secret = refl

made-label : (known : Context) (op : Op) (a b m : Tree) → Made op a b m
    → label_of known m ≡ higher (label_of known a) (label_of known b)
made-label known op a b _ AsBefore = refl
made-label known op a b _ (Computed y z e f) =
    sym (ap (λ t. higher (label_of known t) (label_of known b)) e ∙ ap (label_of known) f)
made-label known op a b _ (Swapped e) = higher-swapped (label_of known b) (label_of known a)
made-label known op a b _ (SwappedShift y k f e is) =
    higher-swapped (label_of known b) Public
    ∙ ap (λ l. higher l (label_of known b)) (sym (ap (label_of known) f))
made-label known op a b _ (Shifted z k f e is) = ap (higher (label_of known a)) (sym (ap (label_of known) f))
made-label known op a b _ (Masked z k f e is) = ap (higher (label_of known a)) (sym (ap (label_of known) f))

pub folded-label : (known : Context) (e : Tree) → label_of known (folded e) ≡ label_of known e
folded-label known (Number z) = refl
folded-label known (Variable x) = refl
folded-label known (Element x i) = ap (higher (label_at known x)) (folded-label known i)
folded-label known (Operation op a b) =
    made-label known op (folded a) (folded b) _ (is-made op (folded a) (folded b))
    ∙ ap (λ l. higher l (label_of known (folded b))) (folded-label known a)
    ∙ ap (higher (label_of known a)) (folded-label known b)

-- the types
made-typed : (known : Context) (op : Op) (a b m : Tree) → Made op a b m → TypedTree known a → TypedTree known b
    → TypedTree known m
made-typed known op a b _ AsBefore first second = (first, second)
made-typed known op a b _ (Computed y z e f) first second = tt
made-typed known op a b _ (Swapped e) first second = (second, first)
made-typed known op a b _ (SwappedShift y k f e is) first second = (second, tt)
made-typed known op a b _ (Shifted z k f e is) first second = (first, tt)
made-typed known op a b _ (Masked z k f e is) first second = (first, tt)

pub folded-typed : (known : Context) (e : Tree) → TypedTree known e → TypedTree known (folded e)
folded-typed known (Number z) typed = tt
folded-typed known (Variable x) typed = typed
folded-typed known (Element x i) (used, (inner, flows)) =
    (used, (folded-typed known i inner, subst (λ l. Flows l (label_at known x)) (sym (folded-label known i)) flows))
folded-typed known (Operation op a b) (first, second) =
    made-typed known op (folded a) (folded b) _ (is-made op (folded a) (folded b)) (folded-typed known a first)
    (folded-typed known b second)

-- the height and the weight
made-height : (op : Op) (a b m : Tree) → Made op a b m → height_of m ≤ max (height_of a) (height_of b) + 1
made-height op a b _ (SwappedShift y k f e is) = let one = ap height_of f in omega arith
made-height op a b _ (Shifted z k f e is) = let one = ap height_of f in omega arith
made-height op a b _ (Masked z k f e is) = let one = ap height_of f in omega arith
made-height op a b _ other = omega arith

pub folded-height : (e : Tree) → height_of (folded e) ≤ height_of e
folded-height (Number z) = omega arith
folded-height (Variable x) = omega arith
folded-height (Element x i) = let inner = folded-height i in omega arith
folded-height (Operation op a b) =
    let made = made-height op (folded a) (folded b) _ (is-made op (folded a) (folded b)) in
    let first = folded-height a in
    let second = folded-height b in
    omega arith

made-weight : (op : Op) (a b m : Tree) → Made op a b m → tree_weight m ≤ 1 + (tree_weight a + tree_weight b)
made-weight op a b _ (SwappedShift y k f e is) = let one = ap tree_weight f in omega arith
made-weight op a b _ (Shifted z k f e is) = let one = ap tree_weight f in omega arith
made-weight op a b _ (Masked z k f e is) = let one = ap tree_weight f in omega arith
made-weight op a b _ other = omega arith

pub folded-weight : (e : Tree) → tree_weight (folded e) ≤ tree_weight e
folded-weight (Number z) = omega arith
folded-weight (Variable x) = omega arith
folded-weight (Element x i) = let inner = folded-weight i in omega arith
folded-weight (Operation op a b) =
    let made = made-weight op (folded a) (folded b) _ (is-made op (folded a) (folded b)) in
    let first = folded-weight a in
    let second = folded-weight b in
    omega arith
