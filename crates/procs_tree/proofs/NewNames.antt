-- The names `__0`, `__1` and so on: only the new variables have them, and each has its own.
use Rattle.std.proofs.Common.{◌≡◌, ◌≢◌, ℕ, zero, suc, ◌+◌, ◌<◌, ◌≤◌, ◌^◌, Bool, true, false, cond, List, [], ◌∷◌, ◌++◌, length, drop, get_or, Option, Some, None, refl, sym, ap, ◌∙◌, subst, arith}
use Rattle.std.specs.Prelude.{bytes_eq, decimal}
use Rattle.std.specs.Option.{option_map}
use Rattle.std.specs.Str.Parse.{digits_value}
use Rattle.std.proofs.lemmas.Fmt.{decimal_nonempty}
use Rattle.std.proofs.lemmas.Slice.Eq.{bytes_eq-Decides}
use Rattle.gr_base.proofs.Digits.{numeral_value}
use Rattle.gr_base.proofs.ListTests.{bytes_eq-own}
use Rattle.gr_word.specs.declared.variables.Label.{Label}
use Rattle.src_tree.specs.declared.trees.Decl.{Decl}
use Rattle.src_tree.specs.Prelude.{variable_number}
use Rattle.procs_tree.specs.Prelude.{declared_names, is_hidden, new_name, no_name, added, kept_name, ArePlain}
use Rattle.procs_tree.proofs.Mirrors.{Sizes, StandsAt, Nowhere, There, Match}
use Rattle.procs_tree.proofs.Entering.{NewNumbers}

no_test : (b : Bool) → (b ≡ true → ⊥) → b ≡ false
no_test true not = absurd (not refl)
no_test false not = refl

differ : (x y : List ℕ) → x ≢ y → bytes_eq x y ≡ false
differ x y ne = no_test (bytes_eq x y) (λ e. ne ((bytes_eq-Decides x y).0 e))

hidden_differ : (x y : List ℕ) → is_hidden x ≡ true → is_hidden y ≡ false → x ≢ y
hidden_differ x y h p e = absurd (let f : true ≡ false = sym h ∙ (ap is_hidden e ∙ p) in cc)

-- after declarations of other names
behind_plain : (ds more : List Decl) (x : List ℕ) → ArePlain ds → is_hidden x ≡ true
    → variable_number (ds ++ more) x ≡ length ds + variable_number more x
behind_plain [] more x plain hidden = omega arith
behind_plain (d ∷ ds) more x plain hidden =
    ap (λ b. cond b 0 (1 + variable_number (ds ++ more) x))
    (differ x d.name (hidden_differ x d.name hidden plain.0))
    ∙ (let h = behind_plain ds more x plain.1 hidden in omega (arith, h))

pub added_long : (next : ℕ) (labels : List Label) → length (added next labels) ≡ length labels
added_long next [] = refl
added_long next (label ∷ labels) = ap suc (added_long (next + 1) labels)

same_number : (a b : ℕ) → a < 2 ^ 64 → b < 2 ^ 64 → new_name a ≡ new_name b → a ≡ b
same_number a b p q e =
    sym (numeral_value a p) ∙ (ap (λ xs. digits_value 10 (drop 2 xs)) e ∙ numeral_value b q)

-- the number of a new variable among the new ones
new_number : (labels : List Label) (next j : ℕ) → j < length labels → next + length labels ≤ 2 ^ 64
    → variable_number (added next labels) (new_name (next + j)) ≡ j
new_number [] next j lt few = absurd (omega arith)
new_number (label ∷ labels) next zero lt few =
    ap (λ b. cond b 0 (1 + variable_number (added (next + 1) labels) (new_name (next + 0))))
    (ap (λ n. bytes_eq (new_name n) (new_name next)) (let h : next + 0 ≡ next = omega arith in h)
    ∙ bytes_eq-own (new_name next))
new_number (label ∷ labels) next (suc j) lt few =
    ap (λ b. cond b 0 (1 + variable_number (added (next + 1) labels) (new_name (next + suc j))))
    (differ (new_name (next + suc j)) (new_name next) (λ e.
    let h = same_number (next + suc j) next (omega arith) (omega arith) e in absurd (omega (arith, h))))
    ∙ (let h = new_number labels (next + 1) j (omega arith) (omega arith) in
    let e : new_name (next + 1 + j) ≡ new_name (next + suc j) =
    ap new_name (let n : next + 1 + j ≡ next + suc j = omega arith in n) in
    let g : variable_number (added (next + 1) labels) (new_name (next + suc j)) ≡ j =
    ap (λ x. variable_number (added (next + 1) labels) x) (sym e) ∙ h in
    omega (arith, g))

nothing_new : (labels : List Label) (next : ℕ) → next + length labels ≤ 2 ^ 64
    → variable_number (added next labels) no_name ≡ length labels
nothing_new [] next few = refl
nothing_new (label ∷ labels) next few =
    ap (λ b. cond b 0 (1 + variable_number (added (next + 1) labels) no_name))
    (differ no_name (new_name next) (λ e.
    let some = decimal_nonempty next (omega arith) in
    let h : 0 ≡ length (decimal next) = ap (λ xs. length (drop 2 xs)) e in absurd (omega (arith, some, h))))
    ∙ (let h = nothing_new labels (next + 1) (omega arith) in omega (arith, h))

plain_new : (labels : List Label) (next : ℕ) (x : List ℕ) → is_hidden x ≡ false
    → variable_number (added next labels) x ≡ length labels
plain_new [] next x plain = refl
plain_new (label ∷ labels) next x plain =
    ap (λ b. cond b 0 (1 + variable_number (added (next + 1) labels) x))
    (differ x (new_name next) (λ e. hidden_differ (new_name next) x refl plain (sym e)))
    ∙ (let h = plain_new labels (next + 1) x plain in omega (arith, h))

abbrev pub sizes : List Decl → List Label → Sizes
sizes ds labels = record { own = length ds; new = length labels }

pub new_numbers : (ds : List Decl) (labels : List Label) → ArePlain ds → length labels ≤ 2 ^ 64
    → NewNumbers (sizes ds labels) (ds ++ added 0 labels)
new_numbers ds labels plain few = record {
  new = λ k lt.
      behind_plain ds (added 0 labels) (new_name k) plain refl
      ∙ ap (λ n. length ds + n)
      (ap (λ n. variable_number (added 0 labels) (new_name n)) (let h : k ≡ 0 + k = omega arith in h)
      ∙ new_number labels 0 k lt (omega arith));
  none =
      let h = behind_plain ds (added 0 labels) no_name plain refl in
      let g = nothing_new labels 0 (omega arith) in omega (arith, h, g);
}

-- the places of the file's own variables
abbrev pub places_from : (from count : ℕ) → List ℕ
places_from from zero = []
places_from from (suc n) = from ∷ places_from (from + 1) n

pub places_long : (from count : ℕ) → length (places_from from count) ≡ count
places_long from zero = refl
places_long from (suc n) = ap suc (places_long (from + 1) n)

pub place_is : (from count j : ℕ) → j < count → get_or (places_from from count) j 0 ≡ from + j
place_is from zero j lt = absurd (omega arith)
place_is from (suc n) zero lt = omega arith
place_is from (suc n) (suc j) lt = let h = place_is (from + 1) n j (omega arith) in omega (arith, h)

-- what a name refers to among declarations followed by others
abbrev InFront : Option ℕ → (count rest n : ℕ) → Type 0
InFront None count rest n = n ≡ count + rest
InFront (Some j) count rest n = (j < count) × (n ≡ j)

in_front : (ds more : List Decl) (x : List ℕ)
    → InFront (declared_names ds x) (length ds) (variable_number more x) (variable_number (ds ++ more) x)
in_front [] more x = omega arith
in_front (d ∷ ds) more x = by (bytes_eq x d.name) (declared_names ds x) (in_front ds more x)
  where
    by : (b : Bool) (o : Option ℕ)
        → InFront o (length ds) (variable_number more x) (variable_number (ds ++ more) x)
        → InFront (cond b (Some 0) (option_map (λ k. 1 + k) o)) (suc (length ds)) (variable_number more x)
        (cond b 0 (1 + variable_number (ds ++ more) x))
    by true o h = (omega arith, refl)
    by false None h = omega (arith, h)
    by false (Some j) h = let a = h.0 in (omega (arith, a), ap (λ n. 1 + n) h.1)

hidden_undeclared : (ds : List Decl) (x : List ℕ) → ArePlain ds → is_hidden x ≡ true → declared_names ds x ≡ None
hidden_undeclared [] x plain hidden = refl
hidden_undeclared (d ∷ ds) x plain hidden =
    ap (λ b. cond b (Some 0) (option_map (λ k. 1 + k) (declared_names ds x)))
    (differ x d.name (hidden_differ x d.name hidden plain.0))
    ∙ ap (option_map (λ k. 1 + k)) (hidden_undeclared ds x plain.1 hidden)

own_stands : (ds : List Decl) (labels : List Label) (x : List ℕ) → is_hidden x ≡ false → (o : Option ℕ)
    → InFront o (length ds) (variable_number (added 0 labels) x) (variable_number (ds ++ added 0 labels) x)
    → StandsAt (sizes ds labels) (places_from 0 (length ds)) o (variable_number (ds ++ added 0 labels) x)
own_stands ds labels x shown None h = let g = plain_new labels 0 x shown in Nowhere (omega (arith, h, g))
own_stands ds labels x shown (Some j) h =
    let a = h.0 in
    let l = places_long 0 (length ds) in
    let p = place_is 0 (length ds) j h.0 in
    let e : j ≡ get_or (places_from 0 (length ds)) j 0 = omega (arith, p) in
    There (omega (arith, a, l)) (h.1 ∙ e)

-- the file's own names refer to the same variables in the program
pub own_match : (ds : List Decl) (labels : List Label) → ArePlain ds → length labels ≤ 2 ^ 64
    → Match (sizes ds labels) (ds ++ added 0 labels) (places_from 0 (length ds)) (declared_names ds) kept_name
own_match ds labels plain few = record { stands = λ x. by x (is_hidden x) refl }
  where
    by : (x : List ℕ) (b : Bool) → is_hidden x ≡ b
        → StandsAt (sizes ds labels) (places_from 0 (length ds)) (declared_names ds x)
        (variable_number (ds ++ added 0 labels) (cond b no_name x))
    by x true hidden =
        subst (λ o. StandsAt (sizes ds labels) (places_from 0 (length ds)) o
        (variable_number (ds ++ added 0 labels) no_name)) (sym (hidden_undeclared ds x plain hidden))
        (Nowhere (new_numbers ds labels plain few).none)
    by x false shown = own_stands ds labels x shown (declared_names ds x) (in_front ds (added 0 labels) x)
