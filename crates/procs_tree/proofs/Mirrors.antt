-- Two stores, of which the second holds what the first does, each variable at a place of its own; and names that refer
-- to the same variables in both.
use Rattle.std.proofs.Common.{◌≡◌, ◌≢◌, ℕ, ◌+◌, ◌<◌, ◌≤◌, ℤ, pos, List, [], ◌++◌, length, take, get_or, set, Option, Some, None, refl, sym, ap, ◌∙◌, subst, ⊎_elim, arith, length-set, get_or-set_same, get_or-set_other}
use Rattle.std.proofs.lemmas.Bool.{cases_eq}
use Rattle.std.proofs.lemmas.List.{get_or_past, set_past, get_or_append_left, get_or-take, length-take-le, length-append}
use Rattle.gr_word.specs.Prelude.{applied, compared}
use Rattle.src_tree.specs.declared.trees.Decl.{Decl}
use Rattle.src_tree.specs.Prelude.{Tree, Number, Variable, Element, Operation, Test, Store, variable_number, words_of_number, scalar, element, wrapped, with_word, scalar_set, element_set, evaluated, guard_holds}
use Rattle.procs_tree.specs.Prelude.{Names, scalar_of, element_of, with_scalar, with_element, valued, passes, Renaming, renamed, renamed_test}

-- what the second store is to have: the file's own variables, and new ones of one word
pub record Sizes : Type 0 where
  pub own : ℕ
  pub new : ℕ

-- the places are different ones, below those of the new variables from `next` on
pub record ArePlaces (size : Sizes) (next : ℕ) (places : List ℕ) : Type 0 where
  pub low : (j : ℕ) → j < length places → get_or places j 0 < size.own + next
  pub apart : (i j : ℕ) → i < length places → j < length places → get_or places i 0 ≡ get_or places j 0 → i ≡ j

pub record Mirrors (size : Sizes) (places : List ℕ) (s t : Store) : Type 0 where
  pub long : length s ≡ length places
  pub room : length t ≡ size.own + size.new
  pub same : (j : ℕ) → j < length places → words_of_number s j ≡ words_of_number t (get_or places j 0)
  pub scalars : (k : ℕ) → size.own ≤ k → k < size.own + size.new → length (words_of_number t k) ≡ 1

-- the variable that a name refers to has its place in the second store, and a name that refers to nothing has none
pub data StandsAt (size : Sizes) (places : List ℕ) : Option ℕ → ℕ → Type 0 where
  Nowhere : {n : ℕ} → size.own + size.new ≤ n → StandsAt size places None n
  There : {j n : ℕ} → j < length places → n ≡ get_or places j 0 → StandsAt size places (Some j) n

pub record Match (size : Sizes) (decls : List Decl) (places : List ℕ) (names : Names) (to : Renaming) : Type 0 where
  pub stands : (x : List ℕ) → StandsAt size places (names x) (variable_number decls (to x))

pub places_below : {size : Sizes} {next : ℕ} {places : List ℕ} (more : ℕ) → next ≤ more → ArePlaces size next places
    → ArePlaces size more places
places_below more le are =
    record { low = λ j lt. let h = are.low j lt in omega arith; apart = are.apart }

none_there : (t : Store) (n : ℕ) → length t ≤ n → words_of_number t n ≡ []
none_there t n past = get_or_past t n [] past

-- reading
scalar_same : {size : Sizes} {places : List ℕ} {s t : Store} → Mirrors size places s t → (o : Option ℕ) (n : ℕ)
    → StandsAt size places o n → scalar_of s o ≡ scalar t n
scalar_same {s = s} {t = t} m None n (Nowhere past) =
    let long = m.room in
    sym (ap (λ ws. get_or ws 0 (pos 0)) (none_there t n (omega arith)))
scalar_same {s = s} {t = t} m (Some j) n (There lt is) =
    ap (λ ws. get_or ws 0 (pos 0)) (m.same j lt ∙ ap (λ k. words_of_number t k) (sym is))

element_same : {size : Sizes} {places : List ℕ} {s t : Store} → Mirrors size places s t → (o : Option ℕ) (n : ℕ)
    → StandsAt size places o n → (index : ℤ) → element_of s o index ≡ element t n index
element_same {s = s} {t = t} m None n (Nowhere past) index =
    let long = m.room in
    sym (ap (λ ws. get_or ws (wrapped ws index) (pos 0)) (none_there t n (omega arith)))
element_same {s = s} {t = t} m (Some j) n (There lt is) index =
    ap (λ ws. get_or ws (wrapped ws index) (pos 0)) (m.same j lt ∙ ap (λ k. words_of_number t k) (sym is))

pub valued_same : {size : Sizes} {places : List ℕ} {s t : Store} (decls : List Decl) (names : Names) (to : Renaming)
    → Match size decls places names to → Mirrors size places s t → (e : Tree)
    → valued names s e ≡ evaluated decls t (renamed to e)
valued_same decls names to is m (Number z) = refl
valued_same decls names to is m (Variable x) = scalar_same m (names x) (variable_number decls (to x)) (is.stands x)
valued_same {s = s} {t = t} decls names to is m (Element x i) =
    ap (element_of s (names x)) (valued_same decls names to is m i)
    ∙ element_same m (names x) (variable_number decls (to x)) (is.stands x) (evaluated decls t (renamed to i))
valued_same {s = s} {t = t} decls names to is m (Operation op a b) =
    ap (λ z. applied op z (valued names s b)) (valued_same decls names to is m a)
    ∙ ap (applied op (evaluated decls t (renamed to a))) (valued_same decls names to is m b)

pub passes_same : {size : Sizes} {places : List ℕ} {s t : Store} (decls : List Decl) (names : Names) (to : Renaming)
    → Match size decls places names to → Mirrors size places s t → (test : Test)
    → passes names test s ≡ guard_holds decls t (renamed_test to test)
passes_same {s = s} {t = t} decls names to is m test =
    ap (λ z. compared test.cmp z (valued names s test.right)) (valued_same decls names to is m test.left)
    ∙ ap (compared test.cmp (evaluated decls t (renamed to test.left))) (valued_same decls names to is m test.right)

-- writing
pub words_set : (t : Store) (n k at : ℕ) (v : ℤ) → n < length t
    → length (words_of_number (with_word t n at v) k) ≡ length (words_of_number t k)
words_set t n k at v in_range = ⊎_elim same other (cases_eq k n)
  where
    same : k ≡ n → length (words_of_number (with_word t n at v) k) ≡ length (words_of_number t k)
    same e =
        ap (λ i. length (words_of_number (with_word t n at v) i)) e
        ∙ (ap length (get_or-set_same t n (set (words_of_number t n) at v) [] in_range)
        ∙ (length-set (words_of_number t n) at v ∙ ap (λ i. length (words_of_number t i)) (sym e)))

    other : k ≢ n → length (words_of_number (with_word t n at v) k) ≡ length (words_of_number t k)
    other ne = ap length (get_or-set_other t n k (set (words_of_number t n) at v) [] ne)

word_mirrors : {size : Sizes} {next : ℕ} {places : List ℕ} {s t : Store} → ArePlaces size next places
    → next ≤ size.new → Mirrors size places s t → (j at : ℕ) (v : ℤ) → j < length places
    → Mirrors size places (with_word s j at v) (with_word t (get_or places j 0) at v)
word_mirrors {size} {next} {places} {s} {t} are few m j at v lt =
    let long = m.long in
    let room = m.room in
    let low = are.low j lt in
    record {
      long = length-set s j (set (words_of_number s j) at v) ∙ m.long;
      room = length-set t (get_or places j 0) (set (words_of_number t (get_or places j 0)) at v) ∙ m.room;
      same = λ i within. ⊎_elim (equal i within) (differ i within) (cases_eq i j);
      scalars = λ k from below. words_set t (get_or places j 0) k at v (omega arith) ∙ m.scalars k from below;
    }
  where
    equal : (i : ℕ) → i < length places → i ≡ j
        → words_of_number (with_word s j at v) i
        ≡ words_of_number (with_word t (get_or places j 0) at v) (get_or places i 0)
    equal i within e =
        let long = m.long in
        let room = m.room in
        let low = are.low j lt in
        ap (λ n. words_of_number (with_word s j at v) n) e
        ∙ (get_or-set_same s j (set (words_of_number s j) at v) [] (omega arith)
        ∙ (ap (λ ws. set ws at v) (m.same j lt)
        ∙ (sym (get_or-set_same t (get_or places j 0) (set (words_of_number t (get_or places j 0)) at v) []
        (omega arith))
        ∙ ap (λ n. words_of_number (with_word t (get_or places j 0) at v) (get_or places n 0)) (sym e))))

    differ : (i : ℕ) → i < length places → i ≢ j
        → words_of_number (with_word s j at v) i
        ≡ words_of_number (with_word t (get_or places j 0) at v) (get_or places i 0)
    differ i within ne =
        get_or-set_other s j i (set (words_of_number s j) at v) [] ne
        ∙ (m.same i within
        ∙ sym (get_or-set_other t (get_or places j 0) (get_or places i 0)
        (set (words_of_number t (get_or places j 0)) at v) [] (λ e. ne (are.apart i j within lt e))))

past_set : (t : Store) (n : ℕ) (ws : List ℤ) → length t ≤ n → set t n ws ≡ t
past_set t n ws past = set_past t n ws past

pub scalar_mirrors : {size : Sizes} {next : ℕ} {places : List ℕ} {s t : Store} → ArePlaces size next places
    → next ≤ size.new → Mirrors size places s t → (o : Option ℕ) (n : ℕ) → StandsAt size places o n → (v : ℤ)
    → Mirrors size places (with_scalar s o v) (scalar_set t n v)
scalar_mirrors {size} {next} {places} {s} {t} are few m None n (Nowhere past) v =
    let room = m.room in
    subst (λ z. Mirrors size places s z) (sym (past_set t n (set (words_of_number t n) 0 v) (omega arith))) m
scalar_mirrors {size} {next} {places} {s} {t} are few m (Some j) n (There lt is) v =
    subst (λ k. Mirrors size places (scalar_set s j v) (scalar_set t k v)) (sym is)
    (word_mirrors are few m j 0 v lt)

pub element_mirrors : {size : Sizes} {next : ℕ} {places : List ℕ} {s t : Store} → ArePlaces size next places
    → next ≤ size.new → Mirrors size places s t → (o : Option ℕ) (n : ℕ) → StandsAt size places o n
    → (index v : ℤ) → Mirrors size places (with_element s o index v) (element_set t n index v)
element_mirrors {size} {next} {places} {s} {t} are few m None n (Nowhere past) index v =
    let room = m.room in
    subst (λ z. Mirrors size places s z)
    (sym (past_set t n (set (words_of_number t n) (wrapped (words_of_number t n) index) v) (omega arith))) m
element_mirrors {size} {next} {places} {s} {t} are few m (Some j) n (There lt is) index v =
    subst (λ k. Mirrors size places (element_set s j index v) (element_set t k index v)) (sym is)
    (subst (λ ws. Mirrors size places (with_word s j (wrapped (words_of_number s j) index) v)
    (with_word t (get_or places j 0) (wrapped ws index) v)) (m.same j lt)
    (word_mirrors are few m j (wrapped (words_of_number s j) index) v lt))

-- only the first variables
pub front_mirrors : {size : Sizes} {s t : Store} (places more : List ℕ) (count : ℕ) → count ≡ length places
    → Mirrors size (places ++ more) s t → Mirrors size places (take count s) t
front_mirrors {size} {s} {t} places more count is m =
    let long = m.long in
    let all = length-append places more in
    record {
      long = length-take-le count s (omega arith) ∙ is;
      room = m.room;
      same = λ j lt.
          get_or-take count s j [] (omega arith) ∙ (m.same j (omega arith)
          ∙ ap (λ n. words_of_number t n) (get_or_append_left places more 0 j lt));
      scalars = m.scalars;
    }
