-- The names that have a number are those that were added, and statements know all their names exactly if each of the
-- names in them has one.
use Rattle.std.proofs.Common.{◌≡◌, ℕ, ◌+◌, Bool, true, false, cond, ◌&&◌, List, [], ◌∷◌, ◌++◌, Contains, Option, Some, None, ◌⊎◌, ⊎_elim, inl, inr, refl, sym, ap, ◌∙◌, subst}
use Rattle.std.specs.Prelude.{bytes_eq, is_some}
use Rattle.std.specs.List.{flat_map, list_all}
use Rattle.std.proofs.Math.Bool.{and-true}
use Rattle.std.proofs.lemmas.List.Concat.{flat_map-cons}
use Rattle.std.proofs.lemmas.List.Folds.{list_all-append}
use Rattle.std.proofs.lemmas.Option.{same_Some}
use Rattle.std.proofs.lemmas.Slice.Eq.{bytes_eq-Decides}
use Rattle.gr_base.proofs.ListTests.{bytes_eq-own}
use Rattle.src_tree.specs.Prelude.{Tree, Number, Variable, Element, Operation}
use Rattle.procs_tree.specs.Prelude.{Names, Statement, SetVariable, SetElement, Choice, Loop, Call, Block, Nothing, Then, names_in, names_in_statement, names_in_block, numbered, numbered_all, knows, knows_each, knows_statement, knows_block}
use Rattle.procs_tree.proofs.Members.{in-none, in-cases, in-here, in-there}

-- ---- one name more

number-kept : (known : Names) (y : List ℕ) (n : ℕ) (x : List ℕ) → is_some (known x) ≡ true
    → is_some (numbered known y n x) ≡ true
number-kept known y n x is = by (bytes_eq y x)
  where
    by : (b : Bool) → is_some (cond b (Some n) (known x)) ≡ true
    by true = refl
    by false = is

number-own : (known : Names) (y : List ℕ) (n : ℕ) → is_some (numbered known y n y) ≡ true
number-own known y n = ap (λ b. is_some (cond b (Some n) (known y))) (bytes_eq-own y)

number-cases : (known : Names) (y : List ℕ) (n : ℕ) (x : List ℕ) → is_some (numbered known y n x) ≡ true
    → (is_some (known x) ≡ true) ⊎ (y ≡ x)
number-cases known y n x is = by (bytes_eq y x) refl is
  where
    by : (b : Bool) → bytes_eq y x ≡ b → is_some (cond b (Some n) (known x)) ≡ true
        → (is_some (known x) ≡ true) ⊎ (y ≡ x)
    by true e is = inr ((bytes_eq-Decides y x).0 e)
    by false e is = inl is

-- a name is known, or is one of some names
abbrev pub IsOneOf : Names → List (List ℕ) → List ℕ → Type 0
IsOneOf known names x = (is_some (known x) ≡ true) ⊎ Contains names x

one-less : (known : Names) (y : List ℕ) (n : ℕ) (names : List (List ℕ)) (x : List ℕ) → IsOneOf known (y ∷ names) x
    → IsOneOf (numbered known y n) names x
one-less known y n names x (inl is) = inl (number-kept known y n x is)
one-less known y n names x (inr c) =
    ⊎_elim
    (λ (is : y ≡ x). inl (subst (λ z. is_some (numbered known y n z) ≡ true) is (number-own known y n)))
    (λ rest. inr rest)
    (in-cases y names x c)

one-more : (known : Names) (y : List ℕ) (n : ℕ) (names : List (List ℕ)) (x : List ℕ)
    → IsOneOf (numbered known y n) names x → IsOneOf known (y ∷ names) x
one-more known y n names x (inl is) =
    ⊎_elim
    (λ known_before. inl known_before)
    (λ (same : y ≡ x). inr (subst (Contains (y ∷ names)) same (in-here y names)))
    (number-cases known y n x is)
one-more known y n names x (inr c) = inr (in-there y names x c)

-- ---- several names

-- names that got the numbers from n on
abbrev pub added : Names → ℕ → List (List ℕ) → Names
added known n [] = known
added known n (x ∷ xs) = added (numbered known x n) (n + 1) xs

pub added-has : (known : Names) (n : ℕ) (names : List (List ℕ)) (x : List ℕ) → IsOneOf known names x
    → is_some (added known n names x) ≡ true
added-has known n [] x (inl is) = is
added-has known n [] x (inr c) = absurd (in-none x c)
added-has known n (y ∷ names) x one =
    added-has (numbered known y n) (n + 1) names x (one-less known y n names x one)

pub added-only : (known : Names) (n : ℕ) (names : List (List ℕ)) (x : List ℕ)
    → is_some (added known n names x) ≡ true → IsOneOf known names x
added-only known n [] x is = inl is
added-only known n (y ∷ names) x is =
    one-more known y n names x (added-only (numbered known y n) (n + 1) names x is)

-- of some names, one is known already or is one of those before it
pub record IsTwiceIn (known : Names) (names : List (List ℕ)) : Type 0 where
  pub front : List (List ℕ)
  pub name : List ℕ
  pub back : List (List ℕ)
  pub parts : names ≡ front ++ name ∷ back
  pub again : IsOneOf known front name

pub twice-none : (known : Names) (n : ℕ) (front : List (List ℕ)) (x : List ℕ) (back : List (List ℕ))
    → IsOneOf known front x → numbered_all known n (front ++ x ∷ back) ≡ None
twice-none known n [] x back (inl is) = ap (λ b. cond b None (numbered_all (numbered known x n) (n + 1) back)) is
twice-none known n [] x back (inr c) = absurd (in-none x c)
twice-none known n (y ∷ front) x back one =
    by (is_some (known y)) (twice-none (numbered known y n) (n + 1) front x back (one-less known y n front x one))
  where
    by : (b : Bool) → numbered_all (numbered known y n) (n + 1) (front ++ x ∷ back) ≡ None
        → cond b None (numbered_all (numbered known y n) (n + 1) (front ++ x ∷ back)) ≡ None
    by true rest = refl
    by false rest = rest

pub none-twice : (known : Names) (n : ℕ) (names : List (List ℕ)) → numbered_all known n names ≡ None
    → IsTwiceIn known names
none-twice known n [] none = absurd (let e : ◌≡◌ {A = Option Names} (Some known) None = none in cc)
none-twice known n (y ∷ ys) none = by (is_some (known y)) refl none (none-twice (numbered known y n) (n + 1) ys)
  where
    by : (b : Bool) → is_some (known y) ≡ b → cond b None (numbered_all (numbered known y n) (n + 1) ys) ≡ None
        → (numbered_all (numbered known y n) (n + 1) ys ≡ None → IsTwiceIn (numbered known y n) ys)
        → IsTwiceIn known (y ∷ ys)
    by true is none rest = record { front = []; name = y; back = ys; parts = refl; again = inl is }
    by false is none rest_of =
        let rest = rest_of none in
        record {
          front = y ∷ rest.front;
          name = rest.name;
          back = rest.back;
          parts = ap (λ l. y ∷ l) rest.parts;
          again = one-more known y n rest.front rest.name rest.again;
        }

pub all-added : (known : Names) (n : ℕ) (names : List (List ℕ)) (own : Names)
    → numbered_all known n names ≡ Some own → own ≡ added known n names
all-added known n [] own is = sym (same_Some known own is)
all-added known n (y ∷ ys) own is = by (is_some (known y)) is (all-added (numbered known y n) (n + 1) ys own)
  where
    by : (b : Bool) → cond b None (numbered_all (numbered known y n) (n + 1) ys) ≡ Some own
        → (numbered_all (numbered known y n) (n + 1) ys ≡ Some own → own ≡ added (numbered known y n) (n + 1) ys)
        → own ≡ added (numbered known y n) (n + 1) ys
    by true is rest = absurd (let e : ◌≡◌ {A = Option Names} None (Some own) = is in cc)
    by false is rest = rest is

-- ---- the names in statements

module _ (known : Names) where
  abbrev has : List ℕ → Bool
  has x = is_some (known x)

  both : (a b : Bool) (xs ys : List (List ℕ)) → a ≡ list_all has xs → b ≡ list_all has ys
      → (a && b) ≡ list_all has (xs ++ ys)
  both a b xs ys e f =
      ap (λ z. z && b) e ∙ (ap (λ z. list_all has xs && z) f ∙ sym (list_all-append has xs ys))

  in-tree : (e : Tree) → knows known e ≡ list_all has (names_in e)
  in-tree (Number z) = refl
  in-tree (Variable x) = sym (and-true (has x))
  in-tree (Element x i) = ap (λ b. has x && b) (in-tree i)
  in-tree (Operation op a b) = both (knows known a) (knows known b) (names_in a) (names_in b) (in-tree a) (in-tree b)

  in-trees : (es : List Tree) → knows_each known es ≡ list_all has (flat_map names_in es)
  in-trees [] = refl
  in-trees (e ∷ es) =
      both (knows known e) (knows_each known es) (names_in e) (flat_map names_in es) (in-tree e) (in-trees es)
      ∙ ap (list_all has) (sym (flat_map-cons names_in e es))

  mutual
    in-statement : (s : Statement) → knows_statement known s ≡ list_all has (names_in_statement s)
    in-statement (SetVariable x e) = ap (λ b. has x && b) (in-tree e)
    in-statement (SetElement x i e) =
        both (has x && knows known i) (knows known e) (x ∷ names_in i) (names_in e)
        (ap (λ b. has x && b) (in-tree i)) (in-tree e)
    in-statement (Choice t a b) =
        both (knows known t.left && knows known t.right && knows_block known a) (knows_block known b)
        (names_in t.left ++ names_in t.right ++ names_in_block a) (names_in_block b)
        (both (knows known t.left && knows known t.right) (knows_block known a)
        (names_in t.left ++ names_in t.right) (names_in_block a)
        (both (knows known t.left) (knows known t.right) (names_in t.left) (names_in t.right) (in-tree t.left)
        (in-tree t.right))
        (in-block a))
        (in-block b)
    in-statement (Loop t a) =
        both (knows known t.left && knows known t.right) (knows_block known a) (names_in t.left ++ names_in t.right)
        (names_in_block a)
        (both (knows known t.left) (knows known t.right) (names_in t.left) (names_in t.right) (in-tree t.left)
        (in-tree t.right))
        (in-block a)
    in-statement (Call name arguments) = in-trees arguments

    pub in-block : (b : Block) → knows_block known b ≡ list_all has (names_in_block b)
    in-block Nothing = refl
    in-block (Then s rest) =
        both (knows_statement known s) (knows_block known rest) (names_in_statement s) (names_in_block rest)
        (in-statement s) (in-block rest)
