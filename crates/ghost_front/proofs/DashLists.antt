-- The names of `bus` that are `-`, in pairs or not.
use Rattle.std.proofs.Common.{◌≡◌, ℕ, ◌+◌, ◌%◌, ◌<◌, ◌==◌, Bool, true, false, cond, List, [], ◌∷◌, length, Option, Some, None, refl, sym, ap, ◌∙◌, subst, arith, true≢false}
use Rattle.std.specs.Prelude.{is_some, nat_lt, option_and_then}
use Rattle.std.specs.Borrow.{Bor}
use Rattle.std.specs.Option.{option_map}
use Rattle.std.proofs.lemmas.Bool.{false_from_ne_true, lt-ltb, ltb-true}
use Rattle.std.proofs.lemmas.List.{length-map}
use Rattle.std.proofs.lemmas.Option.{none-some, same_Some}
use Rattle.command_words.specs.Prelude.{Pair, bus_named, bus_named_on, in_pairs, number_given, pairs_of, seed_given, texts}
use Rattle.ghost_front.specs.declared.dashes.Dashes.{Dashes}
use Rattle.ghost_front.specs.Prelude.{dashes, names_of, reads}

is_some-map : {A B : Type 0} (f : A → B) (x : Option A) → is_some (option_map f x) ≡ is_some x
is_some-map f None = refl
is_some-map f (Some x) = refl

two_more : (n : ℕ) → (n + 2) % 2 ≡ n % 2
two_more n = omega arith

-- names are pairs if their number is even
pub in_pairs-even : (names : List (List ℕ)) → is_some (in_pairs names) ≡ (length names % 2 == 0)
in_pairs-even [] = refl
in_pairs-even (object ∷ []) = refl
in_pairs-even (object ∷ input ∷ more) =
    let longer : length (object ∷ input ∷ more) ≡ length more + 2 = omega arith in
    is_some-map (λ (pairs : List Pair). record { object = object; input = input } ∷ pairs) (in_pairs more)
    ∙ in_pairs-even more ∙ ap (λ n. n == 0) (sym (two_more (length more))) ∙ ap (λ n. n % 2 == 0) (sym longer)

pair-names : (object input : List ℕ) (more : List (List ℕ)) (pairs : List Pair) (found : Option (List Pair))
    → ((rest : List Pair) → found ≡ Some rest → names_of rest ≡ more)
    → option_map (λ (rest : List Pair). record { object = object; input = input } ∷ rest) found ≡ Some pairs
    → names_of pairs ≡ object ∷ input ∷ more
pair-names object input more pairs None again is = absurd (none-some _ is)
pair-names object input more pairs (Some rest) again is =
    subst (λ p. names_of p ≡ object ∷ input ∷ more) (same_Some _ _ is)
    (ap (λ l. object ∷ input ∷ l) (again rest refl))

-- the names of the pairs are the names
pub pairs-names : (names : List (List ℕ)) (pairs : List Pair) → in_pairs names ≡ Some pairs → names_of pairs ≡ names
pairs-names [] pairs is = subst (λ p. ◌≡◌ {A = List (List ℕ)} (names_of p) []) (same_Some _ _ is) refl
pairs-names (object ∷ []) pairs is = absurd (none-some _ is)
pairs-names (object ∷ input ∷ more) pairs is =
    pair-names object input more pairs (in_pairs more) (λ rest found. pairs-names more rest found) is

-- ---- the words of `bus`

-- too many names are no pairs
pub too-many : (words : List (Bor (List ℕ))) → 16 < length words → false ≡ is_some (pairs_of (texts words))
too-many words many =
    let test : nat_lt 16 (length (texts words)) ≡ true =
    lt-ltb 16 (length (texts words)) (omega (arith, many, length-map words (λ word. word.now))) in
    ap (λ b. is_some (cond b None (in_pairs (texts words)))) (sym test)

-- otherwise they are if their number is even
pub pairs-if-even : (words : List (Bor (List ℕ))) → (16 < length words → ⊥)
    → (length words % 2 == 0) ≡ is_some (pairs_of (texts words))
pairs-if-even words few =
    let test : nat_lt 16 (length (texts words)) ≡ false =
    false_from_ne_true (nat_lt 16 (length (texts words)))
    (λ is. few (omega (arith, ltb-true 16 (length (texts words)) is, length-map words (λ word. word.now)))) in
    ap (λ n. n % 2 == 0) (sym (length-map words (λ word. word.now)))
    ∙ sym (in_pairs-even (texts words))
    ∙ ap (λ b. is_some (cond b None (in_pairs (texts words)))) (sym test)

in_pairs-of : (names : List (List ℕ)) (pairs : List Pair) → pairs_of names ≡ Some pairs → in_pairs names ≡ Some pairs
in_pairs-of names pairs is = go (nat_lt 16 (length names)) is
  where
    go : (many : Bool) → cond many None (in_pairs names) ≡ Some pairs → in_pairs names ≡ Some pairs
    go true none = absurd (none-some _ none)
    go false found = found

-- no pairs: no call
pub no-bus : (names : List (List ℕ)) (cycles seed : Option (List ℕ)) → is_some (pairs_of names) ≡ false
    → None ≡ bus_named dashes.bus (Some names) cycles seed
no-bus names cycles seed none = go (pairs_of names) none
  where
    go : (found : Option (List Pair)) → is_some found ≡ false
        → ◌≡◌ {A = Option Dashes} None (option_and_then (λ pairs. bus_named_on dashes.bus pairs cycles seed) found)
    go None is = refl
    go (Some pairs) is = absurd (true≢false is)

-- pairs: a call with these names
abbrev pub on_names : List (List ℕ) → Option ℕ → Option ℕ → Option Dashes
on_names names cycles seed = option_and_then (λ n. option_map (λ s. reads names) seed) cycles

pub some-bus : (names : List (List ℕ)) (cycles seed : Option (List ℕ)) → is_some (pairs_of names) ≡ true
    → on_names names (number_given cycles) (seed_given seed) ≡ bus_named dashes.bus (Some names) cycles seed
some-bus names cycles seed some = go (pairs_of names) refl some
  where
    go : (found : Option (List Pair)) → pairs_of names ≡ found → is_some found ≡ true
        → on_names names (number_given cycles) (seed_given seed)
        ≡ option_and_then (λ pairs. bus_named_on dashes.bus pairs cycles seed) found
    go None is found = absurd (true≢false (sym found))
    go (Some pairs) is found =
        ap (λ all. on_names all (number_given cycles) (seed_given seed))
        (sym (pairs-names names pairs (in_pairs-of names pairs is)))

pub bus-asked : (result : Option Dashes) (names all : Option (List (List ℕ))) (cycles number seed word : Option (List ℕ))
    → result ≡ bus_named dashes.bus names cycles seed → names ≡ all → cycles ≡ number → seed ≡ word
    → result ≡ bus_named dashes.bus all number word
bus-asked result names all cycles number seed word is same-names same-cycles same-seed =
    is
    ∙ ap (λ n. bus_named dashes.bus n cycles seed) same-names
    ∙ ap (λ c. bus_named dashes.bus all c seed) same-cycles
    ∙ ap (λ s. bus_named dashes.bus all number s) same-seed
