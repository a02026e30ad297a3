-- The tests of alike expressions and of assignments that pair say what the relations say, and the count is that of the
-- most statements that pair.
use Rattle.std.proofs.Common.{length, ◌≡◌, ℕ, ◌+◌, ◌≤◌, ◌==◌, Bool, true, false, not, ◌&&◌, ◌||◌, nat_lt, nat_le, ℤ, pos, List, refl, sym, ap, ◌∙◌, subst, ◌⊎◌, inl, inr, ⊎_elim, arith}
use Rattle.std.specs.Prelude.{if◌then◌else◌, is_some, bytes_eq}
use Rattle.std.specs.Bool.{Decides}
use Rattle.std.proofs.lemmas.Bool.{and_parts, and_from, or_cases, eqb-true, eq-eqb, ltb-true, lt-ltb, leb-true, le-leb, or_left, or_right}
use Rattle.std.proofs.lemmas.Bool.Decides.{Decides-and, Decides-eqb, Decides-int_eq, Decides-or}
use Rattle.std.proofs.lemmas.Slice.Eq.{bytes_eq-Decides}
use Rattle.symbolic_values.specs.Prelude.{same_op}
use Rattle.symbolic_values.proofs.TreeEquality.{same_op-true, same_op-own}
use Rattle.src_tree.specs.Prelude.{Tree, Number, Variable, Element, Operation, Statement, SetVariable, SetElement, Block, Nothing, Then}
use Rattle.block_cache_gen.specs.Prelude.{further_slots, Setting, home_of, is_cached, is_masked, is_within_home, may_step, operand, held_number, reducer, straight, is_product, AreNumbersAlike, numbers_alike, AreHeldAlike, held_alike, InOneBank, AreNumberedAlike, BothWithin, BothReduced, numbered_alike, AreReducedAlike, Residents, ToResidents, same_flag, reduced_alike, Alike, Numbers, Scalars, Oblivious, Same, Operations, ByNumber, Pair, ToScalars, ToOblivious, ToSame, StartsPaired, NonePaired, OnePaired, IsPairCount, is_same, in_one_bank, in_step, both_products, are_plain, is_same_number, by_same_number, is_alike, straight_alike, is_pair, pair_count}
use Rattle.gr_word.specs.declared.operations.Op.{Op}

-- expressions as they stand
same-true : (a b : Tree) → is_same a b ≡ true → a ≡ b
same-true (Number y) (Number z) e = ap Number ((Decides-int_eq y z).0 e)
same-true (Variable x) (Variable y) e = ap Variable ((bytes_eq-Decides x y).0 e)
same-true (Element x i) (Element y j) e =
    let parts = and_parts (bytes_eq x y) (is_same i j) e in
    let name = (bytes_eq-Decides x y).0 parts.0 in
    let index = same-true i j parts.1 in
    λ k. Element (name k) (index k)
same-true (Operation op a b) (Operation oq c d) e =
    let parts = and_parts (same_op op oq) (is_same a c && is_same b d) e in
    let both = and_parts (is_same a c) (is_same b d) parts.1 in
    let ops = same_op-true op oq parts.0 in
    let left = same-true a c both.0 in
    let right = same-true b d both.1 in
    λ k. Operation (ops k) (left k) (right k)
same-true _ _ e = absurd (let f : false ≡ true = e in cc)

same-own : (a : Tree) → is_same a a ≡ true
same-own (Number z) = (Decides-int_eq z z).1 refl
same-own (Variable x) = (bytes_eq-Decides x x).1 refl
same-own (Element x i) = and_from (bytes_eq x x) (is_same i i) ((bytes_eq-Decides x x).1 refl) (same-own i)
same-own (Operation op a b) =
    and_from (same_op op op) (is_same a a && is_same b b) (same_op-own op)
    (and_from (is_same a a) (is_same b b) (same-own a) (same-own b))

-- two kinds of operations
kinds-true : (b c : Bool) → (if b then c else not c) ≡ true → b ≡ c
kinds-true true true e = refl
kinds-true false false e = refl
kinds-true true false e = absurd (let f : false ≡ true = e in cc)
kinds-true false true e = absurd (let f : false ≡ true = e in cc)

kinds-own : (b c : Bool) → b ≡ c → (if b then c else not c) ≡ true
kinds-own true true e = refl
kinds-own false false e = refl
kinds-own true false e = absurd (let f : true ≡ false = e in cc)
kinds-own false true e = absurd (let f : false ≡ true = e in cc)

kinds_decide : (b c : Bool) → Decides (if b then c else not c) (b ≡ c)
kinds_decide b c = (kinds-true b c, kinds-own b c)

flag_decides : (b : Bool) → Decides b (b ≡ true)
flag_decides b = (λ e. e, λ e. e)

module _ (f : Setting) where
  -- two numbers that registers hold, or neither
  numbers_decide : (y z : ℤ) → Decides (numbers_alike f y z) (AreNumbersAlike f y z)
  numbers_decide y z = kinds_decide (is_some (held_number f y)) (is_some (held_number f z))

  bank_decides : (x y : List ℕ) → Decides (in_one_bank f (home_of f x) (home_of f y)) (InOneBank f x y)
  bank_decides x y =
      let g = home_of f x in
      let h = home_of f y in
      let oblivious : Decides (nat_le 2 g.bank) (2 ≤ g.bank) = (leb-true 2 g.bank, le-leb 2 g.bank) in
      let reduced = numbers_alike f (reducer g) (reducer h) in
      let blocks = numbers_alike f (pos g.block) (pos h.block) in
      let found = Decides-and reduced blocks (numbers_decide (reducer g) (reducer h))
      (numbers_decide (pos g.block) (pos h.block)) in
      let same = Decides-and (g.bank == h.bank) (reduced && blocks) (Decides-eqb g.bank h.bank) found in
      let all = Decides-and (nat_le 2 g.bank) ((g.bank == h.bank) && (reduced && blocks)) oblivious same in (
        λ e.
            let (bank, (one, (reducers, firsts))) = all.0 e in
            record { oblivious = bank; same = one; reduced = reducers; blocks = firsts },
        λ one. all.1 (one.oblivious, (one.same, (one.reduced, one.blocks))),
      )

  -- two indexes that are numbered alike
  numbered-true : (x y : List ℕ) (i j : Tree)
      → numbered_alike f (home_of f x) (home_of f y) (is_within_home f (home_of f x) i)
      (is_within_home f (home_of f y) j)
      ≡ true
      → AreNumberedAlike f x y i j
  numbered-true x y i j e = by (is_within_home f (home_of f x) i) (is_within_home f (home_of f y) j) refl refl e
    where
      by : (near far : Bool) → is_within_home f (home_of f x) i ≡ near → is_within_home f (home_of f y) j ≡ far
          → numbered_alike f (home_of f x) (home_of f y) near far ≡ true → AreNumberedAlike f x y i j
      by true far first second e = BothWithin first (second ∙ e)
      by false true first second e = absurd (let g : false ≡ true = e in cc)
      by false false first second e =
          let g = home_of f x in
          let h = home_of f y in
          let parts = and_parts (same_flag (is_masked g) (is_masked h)) (numbers_alike f (reducer g) (reducer h)) e in
          BothReduced
          (record {
            first = first;
            second = second;
            masked = kinds-true (is_masked g) (is_masked h) parts.0;
            reduced = (numbers_decide (reducer g) (reducer h)).0 parts.1;
          })

  numbered-own : (x y : List ℕ) (i j : Tree) → AreNumberedAlike f x y i j
      → numbered_alike f (home_of f x) (home_of f y) (is_within_home f (home_of f x) i)
      (is_within_home f (home_of f y) j)
      ≡ true
  numbered-own x y i j (BothWithin near far) = λ k. numbered_alike f (home_of f x) (home_of f y) (near k) (far k)
  numbered-own x y i j (BothReduced one) =
      let g = home_of f x in
      let h = home_of f y in
      (λ k. numbered_alike f g h (one.first k) (one.second k))
      ∙ and_from (same_flag (is_masked g) (is_masked h)) (numbers_alike f (reducer g) (reducer h))
      (kinds-own (is_masked g) (is_masked h) one.masked) ((numbers_decide (reducer g) (reducer h)).1 one.reduced)

  numbered_decides : (x y : List ℕ) (i j : Tree)
      → Decides
      (numbered_alike f (home_of f x) (home_of f y) (is_within_home f (home_of f x) i) (is_within_home f (home_of f y) j))
      (AreNumberedAlike f x y i j)
  numbered_decides x y i j = (numbered-true x y i j, numbered-own x y i j)

  -- resident arrays whose indexes are reduced alike
  reduced_decides : (x y : List ℕ) (i j : Tree)
      → Decides (reduced_alike f (home_of f x) (home_of f y) i j) (AreReducedAlike f x y i j)
  reduced_decides x y i j =
      let g = home_of f x in
      let h = home_of f y in
      let low = same_flag (is_cached g) (is_cached h) in
      let offset = same_flag (g.word == 0) (h.word == 0) in
      let numbered = numbered_alike f g h (is_within_home f g i) (is_within_home f h j) in
      let words = numbers_alike f (pos g.word) (pos h.word) in
      let blocks = length (further_slots g) == length (further_slots h) in
      let numbers = numbered && (words && blocks) in
      let counted = Decides-and words blocks (numbers_decide (pos g.word) (pos h.word))
      (Decides-eqb (length (further_slots g)) (length (further_slots h))) in
      let reduced = Decides-and numbered (words && blocks) (numbered_decides x y i j) counted in
      let begun = Decides-and offset numbers (kinds_decide (g.word == 0) (h.word == 0)) reduced in
      let cached = Decides-and low (offset && numbers) (kinds_decide (is_cached g) (is_cached h)) begun in
      let second = Decides-and h.resident (low && (offset && numbers)) (flag_decides h.resident) cached in
      let all =
      Decides-and g.resident (h.resident && (low && (offset && numbers))) (flag_decides g.resident) second in (
        λ e.
            let (one, (other, (kind, (begins, (number, (firsts, count)))))) = all.0 e in
            record {
              first = one;
              second = other;
              low = kind;
              offset = begins;
              numbered = number;
              words = firsts;
              blocks = count;
            },
        λ one.
            all.1
            (one.first, (one.second, (one.low, (one.offset, (one.numbered, (one.words, one.blocks)))))),
      )

  -- elements with alike indexes that are alike
  step_decides : (x y : List ℕ) (i j : Tree)
      → Decides (in_step f (home_of f x) (home_of f y) i j) (InOneBank f x y ⊎ AreReducedAlike f x y i j)
  step_decides x y i j =
      Decides-or (in_one_bank f (home_of f x) (home_of f y)) (reduced_alike f (home_of f x) (home_of f y) i j)
      (bank_decides x y) (reduced_decides x y i j)

  -- two numbers or scalars that registers hold, or neither
  held_decides : (a b : Tree) → Decides (held_alike f a b) (AreHeldAlike f a b)
  held_decides a b = kinds_decide (is_some (operand f a)) (is_some (operand f b))

  -- one array and one index
  record OneElement (x y : List ℕ) (i j : Tree) : Type 0 where
    array : x ≡ y
    index : i ≡ j

  element-true : (x y : List ℕ) (i j : Tree) → (bytes_eq x y && is_same i j) ≡ true → OneElement x y i j
  element-true x y i j e =
      let parts = and_parts (bytes_eq x y) (is_same i j) e in
      record { array = (bytes_eq-Decides x y).0 parts.0; index = same-true i j parts.1 }

  element-own : (x : List ℕ) (i : Tree) → (bytes_eq x x && is_same i i) ≡ true
  element-own x i = and_from (bytes_eq x x) (is_same i i) ((bytes_eq-Decides x x).1 refl) (same-own i)

  -- a flag that isn't set
  not-true : (b : Bool) → not b ≡ true → b ≡ false
  not-true false e = refl
  not-true true e = absurd (let f : false ≡ true = e in cc)

  -- the same number
  number-true : (b d : Tree) → is_same_number b d ≡ true → (z : ℤ) × (b ≡ Number z) × (d ≡ Number z)
  number-true (Number y) (Number z) e = (z, ap Number ((Decides-int_eq y z).0 e), refl)
  number-true _ _ e = absurd (let f : false ≡ true = e in cc)

  -- alike operations
  operations-true : (op oq : Op) (a b c d : Tree) → Alike f a c → (is_alike f b d ≡ true → Alike f b d)
      → (by_same_number op b oq d || (are_plain f op b oq d && (both_products op oq && is_alike f b d))) ≡ true
      → Alike f (Operation op a b) (Operation oq c d)
  operations-true op oq a b c d left right e =
      let plain = are_plain f op b oq d && (both_products op oq && is_alike f b d) in
      ⊎_elim
      (λ (same : by_same_number op b oq d ≡ true).
      let parts = and_parts (same_op op oq) (is_same_number b d) same in
      let ops = same_op-true op oq parts.0 in
      let number = number-true b d parts.1 in
      let own = ByNumber op a c number.0 left in
      subst (λ (q : Op). Alike f (Operation op a b) (Operation q c d)) ops
      (subst (λ (t : Tree). Alike f (Operation op a t) (Operation op c d)) (sym number.1)
      (subst (λ (t : Tree). Alike f (Operation op a (Number number.0)) (Operation op c t)) (sym number.2) own)))
      (λ (held : plain ≡ true).
      let parts = and_parts (are_plain f op b oq d) (both_products op oq && is_alike f b d) held in
      let none = and_parts (not (may_step f op b)) (not (may_step f oq d)) parts.0 in
      let both = and_parts (both_products op oq) (is_alike f b d) parts.1 in
      Operations op oq a b c d (not-true (may_step f op b) none.0) (not-true (may_step f oq d) none.1)
      (kinds-true (is_product op) (is_product oq) both.0) left (right both.1))
      (or_cases (by_same_number op b oq d) plain e)

  -- alike expressions
  alike-true : (a b : Tree) → is_alike f a b ≡ true → Alike f a b
  alike-true (Number y) (Number z) e = Numbers y z ((held_decides (Number y) (Number z)).0 e)
  alike-true (Variable x) (Variable y) e = Scalars x y ((held_decides (Variable x) (Variable y)).0 e)
  alike-true (Element x i) (Element y j) e =
      let held = or_cases (in_step f (home_of f x) (home_of f y) i j && is_alike f i j)
      (nat_lt (home_of f x).bank 2 && (bytes_eq x y && is_same i j)) e in
      by (alike-true i j) held
    where
      by : (is_alike f i j ≡ true → Alike f i j)
          → ((in_step f (home_of f x) (home_of f y) i j && is_alike f i j) ≡ true)
          ⊎ ((nat_lt (home_of f x).bank 2 && (bytes_eq x y && is_same i j)) ≡ true)
          → Alike f (Element x i) (Element y j)
      by rest held =
          ⊎_elim
          (λ (one : (in_step f (home_of f x) (home_of f y) i j && is_alike f i j) ≡ true).
          let parts = and_parts (in_step f (home_of f x) (home_of f y) i j) (is_alike f i j) one in
          ⊎_elim
          (λ (bank : InOneBank f x y). Oblivious x y i j bank (rest parts.1))
          (λ (both : AreReducedAlike f x y i j). Residents x y i j both (rest parts.1))
          ((step_decides x y i j).0 parts.0))
          (λ (same : (nat_lt (home_of f x).bank 2 && (bytes_eq x y && is_same i j)) ≡ true).
          let parts = and_parts (nat_lt (home_of f x).bank 2) (bytes_eq x y && is_same i j) same in
          let element = element-true x y i j parts.1 in
          let own = Same x i (ltb-true (home_of f x).bank 2 parts.0) in
          subst (λ (z : List ℕ). Alike f (Element x i) (Element z j)) element.array
          (subst (λ (k : Tree). Alike f (Element x i) (Element x k)) element.index own))
          held
  alike-true (Operation op a b) (Operation oq c d) e =
      let plain = are_plain f op b oq d && (both_products op oq && is_alike f b d) in
      let parts = and_parts (is_alike f a c) (by_same_number op b oq d || plain) e in
      operations-true op oq a b c d (alike-true a c parts.0) (alike-true b d) parts.1
  alike-true _ _ e = absurd (let f : false ≡ true = e in cc)

  alike-own : (a b : Tree) → Alike f a b → is_alike f a b ≡ true
  alike-own a b (Numbers y z one) = (held_decides (Number y) (Number z)).1 one
  alike-own a b (Scalars x y one) = (held_decides (Variable x) (Variable y)).1 one
  alike-own a b (Oblivious x y i j one alike) =
      or_left (in_step f (home_of f x) (home_of f y) i j && is_alike f i j)
      (nat_lt (home_of f x).bank 2 && (bytes_eq x y && is_same i j))
      (and_from (in_step f (home_of f x) (home_of f y) i j) (is_alike f i j)
      ((step_decides x y i j).1 (inl one)) (alike-own i j alike))
  alike-own a b (Residents x y i j one alike) =
      or_left (in_step f (home_of f x) (home_of f y) i j && is_alike f i j)
      (nat_lt (home_of f x).bank 2 && (bytes_eq x y && is_same i j))
      (and_from (in_step f (home_of f x) (home_of f y) i j) (is_alike f i j)
      ((step_decides x y i j).1 (inr one)) (alike-own i j alike))
  alike-own a b (Same x i cached) =
      or_right (in_step f (home_of f x) (home_of f x) i i && is_alike f i i)
      (nat_lt (home_of f x).bank 2 && (bytes_eq x x && is_same i i))
      (and_from (nat_lt (home_of f x).bank 2) (bytes_eq x x && is_same i i) (lt-ltb (home_of f x).bank 2 cached)
      (element-own x i))
  alike-own a b (Operations op oq l r m s plain other kind left right) =
      let both = are_plain f op r oq s && (both_products op oq && is_alike f r s) in
      and_from (is_alike f l m) (by_same_number op r oq s || both) (alike-own l m left)
      (or_right (by_same_number op r oq s) both
      (and_from (are_plain f op r oq s) (both_products op oq && is_alike f r s)
      (and_from (not (may_step f op r)) (not (may_step f oq s)) (ap not plain) (ap not other))
      (and_from (both_products op oq) (is_alike f r s) (kinds-own (is_product op) (is_product oq) kind)
      (alike-own r s right))))
  alike-own a b (ByNumber op l m z left) =
      let both = are_plain f op (Number z) op (Number z) && (both_products op op && is_alike f (Number z) (Number z)) in
      and_from (is_alike f l m) (by_same_number op (Number z) op (Number z) || both) (alike-own l m left)
      (or_left (by_same_number op (Number z) op (Number z)) both
      (and_from (same_op op op) (is_same_number (Number z) (Number z)) (same_op-own op) ((Decides-int_eq z z).1 refl)))

  -- assignments that pair
  pair-true : (s t : Statement) → is_pair f s t ≡ true → Pair f s t
  pair-true (SetVariable x e) (SetVariable y g) held =
      let parts = and_parts (held_alike f (Variable x) (Variable y)) (straight_alike f x y e g && is_alike f e g) held in
      let rest = and_parts (straight_alike f x y e g) (is_alike f e g) parts.1 in
      ToScalars x y e g ((held_decides (Variable x) (Variable y)).0 parts.0)
      (kinds-true (is_some (straight f x e)) (is_some (straight f y g)) rest.0) (alike-true e g rest.1)
  pair-true (SetElement x i e) (SetElement y j g) held =
      let parts = and_parts (is_alike f e g)
      ((in_step f (home_of f x) (home_of f y) i j && is_alike f i j)
      || (((home_of f x).bank == 1) && (bytes_eq x y && is_same i j))) held in
      let value = alike-true e g parts.0 in
      ⊎_elim
      (λ (one : (in_step f (home_of f x) (home_of f y) i j && is_alike f i j) ≡ true).
      let both = and_parts (in_step f (home_of f x) (home_of f y) i j) (is_alike f i j) one in
      ⊎_elim
      (λ (bank : InOneBank f x y). ToOblivious x y i j e g bank (alike-true i j both.1) value)
      (λ (reduced : AreReducedAlike f x y i j). ToResidents x y i j e g reduced (alike-true i j both.1) value)
      ((step_decides x y i j).0 both.0))
      (λ (same : (((home_of f x).bank == 1) && (bytes_eq x y && is_same i j)) ≡ true).
      let both = and_parts ((home_of f x).bank == 1) (bytes_eq x y && is_same i j) same in
      let element = element-true x y i j both.1 in
      let own = ToSame x i e g (eqb-true (home_of f x).bank 1 both.0) value in
      subst (λ (z : List ℕ). Pair f (SetElement x i e) (SetElement z j g)) element.array
      (subst (λ (k : Tree). Pair f (SetElement x i e) (SetElement x k g)) element.index own))
      (or_cases (in_step f (home_of f x) (home_of f y) i j && is_alike f i j)
      (((home_of f x).bank == 1) && (bytes_eq x y && is_same i j)) parts.1)
  pair-true _ _ held = absurd (let f : false ≡ true = held in cc)

  -- assignments to elements that are in step
  stepped-own : (x y : List ℕ) (i j e g : Tree) → in_step f (home_of f x) (home_of f y) i j ≡ true → Alike f i j
      → Alike f e g → is_pair f (SetElement x i e) (SetElement y j g) ≡ true
  stepped-own x y i j e g stepped index value =
      let one = in_step f (home_of f x) (home_of f y) i j && is_alike f i j in
      let other = ((home_of f x).bank == 1) && (bytes_eq x y && is_same i j) in
      and_from (is_alike f e g) (one || other) (alike-own e g value)
      (or_left one other
      (and_from (in_step f (home_of f x) (home_of f y) i j) (is_alike f i j) stepped (alike-own i j index)))

  pair-own : (s t : Statement) → Pair f s t → is_pair f s t ≡ true
  pair-own s t (ToScalars x y e g one both alike) =
      and_from (held_alike f (Variable x) (Variable y)) (straight_alike f x y e g && is_alike f e g)
      ((held_decides (Variable x) (Variable y)).1 one)
      (and_from (straight_alike f x y e g) (is_alike f e g)
      (kinds-own (is_some (straight f x e)) (is_some (straight f y g)) both) (alike-own e g alike))
  pair-own s t (ToOblivious x y i j e g one index value) =
      stepped-own x y i j e g ((step_decides x y i j).1 (inl one)) index value
  pair-own s t (ToResidents x y i j e g one index value) =
      stepped-own x y i j e g ((step_decides x y i j).1 (inr one)) index value
  pair-own s t (ToSame x i e g encrypted value) =
      and_from (is_alike f e g)
      ((in_step f (home_of f x) (home_of f x) i i && is_alike f i i)
      || (((home_of f x).bank == 1) && (bytes_eq x x && is_same i i)))
      (alike-own e g value)
      (or_right (in_step f (home_of f x) (home_of f x) i i && is_alike f i i)
      (((home_of f x).bank == 1) && (bytes_eq x x && is_same i i))
      (and_from ((home_of f x).bank == 1) (bytes_eq x x && is_same i i) (eq-eqb (home_of f x).bank 1 encrypted)
      (element-own x i)))

  -- how many pair
  counted : (s t : Statement) (a b : Block) (held : Bool) → is_pair f s t ≡ held → IsPairCount f a b (pair_count f a b)
      → IsPairCount f (Then s a) (Then t b) (if held then pair_count f a b + 1 else 0)
  counted s t a b true e rest = record {
    pairs = OnePaired (pair_count f a b) s t a b (pair-true s t e) rest.pairs;
    most = λ j paired. more j (Then s a) (Then t b) paired refl refl;
  }
    where
      more : (j : ℕ) (c d : Block) → StartsPaired f j c d → c ≡ Then s a → d ≡ Then t b → j ≤ pair_count f a b + 1
      more j c d (NonePaired c' d') left right = omega arith
      more j c d (OnePaired k u v c' d' pair paired) left right =
          let one : ◌≡◌ {A = Block} (Then u c') (Then s a) = left in
          let two : ◌≡◌ {A = Block} (Then v d') (Then t b) = right in
          let first : c' ≡ a = cc in
          let second : d' ≡ b = cc in
          let le = rest.most k (subst (λ (z : Block). StartsPaired f k a z) second
          (subst (λ (z : Block). StartsPaired f k z d') first paired)) in
          omega arith
  counted s t a b false e rest = record {
    pairs = NonePaired (Then s a) (Then t b);
    most = λ j paired. less j (Then s a) (Then t b) paired refl refl;
  }
    where
      less : (j : ℕ) (c d : Block) → StartsPaired f j c d → c ≡ Then s a → d ≡ Then t b → j ≤ 0
      less j c d (NonePaired c' d') left right = omega arith
      less j c d (OnePaired k u v c' d' pair paired) left right =
          let one : ◌≡◌ {A = Block} (Then u c') (Then s a) = left in
          let two : ◌≡◌ {A = Block} (Then v d') (Then t b) = right in
          let first : u ≡ s = cc in
          let second : v ≡ t = cc in
          let held : is_pair f s t ≡ true = pair-own s t
          (subst (λ (z : Statement). Pair f s z) second (subst (λ (z : Statement). Pair f z v) first pair)) in
          absurd (let g : false ≡ true = sym e ∙ held in cc)

  none_counted : (a b : Block) → ((k : ℕ) (s t : Statement) (c d : Block) → a ≡ Then s c → b ≡ Then t d → ⊥)
      → IsPairCount f a b 0
  none_counted a b lacks = record { pairs = NonePaired a b; most = λ j paired. less j a b paired refl refl }
    where
      less : (j : ℕ) (c d : Block) → StartsPaired f j c d → a ≡ c → b ≡ d → j ≤ 0
      less j c d (NonePaired c' d') left right = omega arith
      less j c d (OnePaired k s t c' d' pair paired) left right = absurd (lacks k s t c' d' left right)

  -- the count is that of the most statements that pair
  pub counts_pairs : (a b : Block) → IsPairCount f a b (pair_count f a b)
  counts_pairs (Then s a) (Then t b) = counted s t a b (is_pair f s t) refl (counts_pairs a b)
  counts_pairs Nothing b =
      none_counted Nothing b (λ k s t c d left right. let f : ◌≡◌ {A = Block} Nothing (Then s c) = left in cc)
  counts_pairs (Then s a) Nothing =
      none_counted (Then s a) Nothing (λ k u t c d left right. let f : ◌≡◌ {A = Block} Nothing (Then t d) = right in cc)
