-- Laws of tables of nodes.
use Rattle.std.proofs.Common.{◌≡◌, ℕ, ◌+◌, ◌-◌, ◌^◌, ◌<◌, ◌≤◌, Bool, true, false, List, [], ◌∷◌, ◌++◌, length, get_or, take, drop, slice_get, Some, Contains, refl, sym, ap, ◌∙◌, subst, inl, inr, ◌⊎◌, ⊎_elim, arith, length-append, take-append-drop}
use Rattle.std.specs.Prelude.{if◌then◌else◌, Result, Ok, Err, IfOk, OnErr}
use Rattle.std.specs.List.{list_any}
use Rattle.std.specs.Cmp.{IsEquivalence}
use Rattle.std.proofs.lemmas.Bool.{cases_lt, false≢true}
use Rattle.std.proofs.lemmas.List.{get_or_append_left}
use Rattle.std.proofs.lemmas.List.Elements.{Contains-get_or}
use Rattle.std.proofs.lemmas.Map.Views.{list_any-from_Contains}
use Rattle.std.proofs.lemmas.Option.{slice_get_within, slice_get-get_or, get_or_from_slice_get}
use Rattle.std.proofs.Math.Seq.{get_or-append_seam}
use Rattle.indexmap.specs.IndexSet.{insert_key}
use Rattle.symbolic_values.specs.declared.nodes.Node.{Node}
use Rattle.symbolic_values.specs.Prelude.{Value, built, trees_of, tree_of, NamesBelow, IsTable, IsNumber, KeepsTrees, PlacedAt}
use Rattle.symbolic_values.proofs.TreeLaws.{tree_of-append, tree_of-push, tree_of-node, built-injective, names_below-more}

-- an item at a place of a list is contained in the list
Contains-from_slice_get : {K : Type 0} (xs : List K) (i : ℕ) (x : K) → slice_get xs i ≡ Some x → Contains xs x
Contains-from_slice_get xs i x at =
    subst (Contains xs) (get_or_from_slice_get xs i x x at) (Contains-get_or xs i x (slice_get_within xs i x at))

-- a place of a list with one more item is a place of the list, or the last
push_cases : {K : Type 0} (xs : List K) (y : K) (i : ℕ) (x : K) → slice_get (xs ++ y ∷ []) i ≡ Some x
    → (slice_get xs i ≡ Some x) ⊎ ((i ≡ length xs) × (y ≡ x))
push_cases {K} xs y i x at =
    let within : i < length (xs ++ y ∷ []) = slice_get_within (xs ++ y ∷ []) i x at in
    let size : length (xs ++ y ∷ []) ≡ length xs + 1 = length-append xs (y ∷ []) in
    let here : get_or (xs ++ y ∷ []) i x ≡ x = get_or_from_slice_get (xs ++ y ∷ []) i x x at in
    ⊎_elim
    (λ (lt : i < length xs).
    inl (slice_get-get_or xs i x lt ∙ ap Some (sym (get_or_append_left xs (y ∷ []) x i lt) ∙ here)))
    (λ (le : length xs ≤ i).
    let last : i ≡ length xs = omega arith in
    inr (last, sym (get_or-append_seam xs y [] x) ∙ ap (λ (j : ℕ). get_or (xs ++ y ∷ []) j x) (sym last) ∙ here))
    (cases_lt i (length xs))

-- the result of an insertion into a set of keys, if keys that compare as equal are equal
pub inserted : (eq : Node → Node → Bool) → IsEquivalence eq → ((x y : Node) → eq x y ≡ true → x ≡ y)
    → (old new : List Node) (n : Node) (i : ℕ) (stored : Node) → new ≡ insert_key eq old n
    → slice_get new i ≡ Some stored → eq n stored ≡ true → PlacedAt old n i new
inserted eq laws same old new n i stored keys at equal = by (list_any (eq n) old) refl
  where
    there : slice_get new i ≡ Some n
    there = at ∙ ap Some (sym (same n stored equal))

    after : (b : Bool) → list_any (eq n) old ≡ b → new ≡ (if b then old else old ++ n ∷ [])
    after b e = keys ∙ ap (λ (c : Bool). if c then old else old ++ n ∷ []) e

    absent : list_any (eq n) old ≡ false → Contains old n → ⊥
    absent e h = false≢true (sym e ∙ list_any-from_Contains laws n old h)

    by : (b : Bool) → list_any (eq n) old ≡ b → PlacedAt old n i new
    by true e = inl (subst (λ (l : List Node). slice_get l i ≡ Some n) (after true e) there, after true e)
    by false e =
        ⊎_elim
        (λ (h : slice_get old i ≡ Some n). absurd (absent e (Contains-from_slice_get old i n h)))
        (λ (h : (i ≡ length old) × (n ≡ n)). inr (absent e, h.0, after false e))
        (push_cases old n i n (subst (λ (l : List Node). slice_get l i ≡ Some n) (after false e) there))

-- the table after a node was placed in it
module _ (old : List Node) (table : IsTable old) (n : Node) (names : NamesBelow (length old) n) where
  size : length (old ++ n ∷ []) ≡ length old + 1
  size = length-append old (n ∷ [])

  last_tree : (i : ℕ) → i ≡ length old → tree_of (old ++ n ∷ []) i ≡ built (trees_of old) n
  last_tree i last = ap (tree_of (old ++ n ∷ [])) last ∙ tree_of-push old n

  -- no number has the tree of a node that isn't in the table
  fresh : (Contains old n → ⊥) → (i : ℕ) → i < length old → tree_of old i ≡ built (trees_of old) n → ⊥
  fresh absent i inside same =
      let m = get_or old i n in
      let at : slice_get old i ≡ Some m = slice_get-get_or old i n inside in
      let is = tree_of-node old i m at table.earlier in
      let below : NamesBelow (length old) m = names_below-more i (length old) m (omega arith) (table.earlier i m at) in
      absent (subst (Contains old)
      (built-injective (length old) (trees_of old) table.distinct m n below names (sym is ∙ same))
      (Contains-get_or old i n inside))

  more_distinct : (Contains old n → ⊥) → (i j : ℕ) → i < length old + 1 → j < length old + 1
      → tree_of (old ++ n ∷ []) i ≡ tree_of (old ++ n ∷ []) j → i ≡ j
  more_distinct absent i j hi hj same =
      ⊎_elim
      (λ (li : i < length old). ⊎_elim
      (λ (lj : j < length old). table.distinct i j li lj
      (sym (tree_of-append old (n ∷ []) i li) ∙ same ∙ tree_of-append old (n ∷ []) j lj))
      (λ (gj : length old ≤ j). absurd
      (fresh absent i li (sym (tree_of-append old (n ∷ []) i li) ∙ same ∙ last_tree j (omega arith))))
      (cases_lt j (length old)))
      (λ (gi : length old ≤ i). ⊎_elim
      (λ (lj : j < length old). absurd
      (fresh absent j lj (sym (tree_of-append old (n ∷ []) j lj) ∙ sym same ∙ last_tree i (omega arith))))
      (λ (gj : length old ≤ j). omega arith)
      (cases_lt j (length old)))
      (cases_lt i (length old))

  table_more : (Contains old n → ⊥) → length old < 2 ^ 32 - 1 → IsTable (old ++ n ∷ [])
  table_more absent room = record {
    earlier = λ i m at.
        ⊎_elim
        (λ (h : slice_get old i ≡ Some m). table.earlier i m h)
        (λ (h : (i ≡ length old) × (n ≡ m)). subst (NamesBelow i) h.1
        (subst (λ (k : ℕ). NamesBelow k n) (sym h.0) names))
        (push_cases old n i m at);
    distinct = λ i j hi hj same. more_distinct absent i j (omega (arith, size)) (omega (arith, size)) same;
    few = omega (arith, size);
  }

  keeps_more : KeepsTrees old (old ++ n ∷ [])
  keeps_more i t h =
      record { inside = omega (arith, size, h.inside); tree = tree_of-append old (n ∷ []) i h.inside ∙ h.tree }

  -- the number of the node has its tree
  pub placed_number : (i : ℕ) (new : List Node) → PlacedAt old n i new → IsNumber new i (built (trees_of old) n)
  placed_number i new placed =
      ⊎_elim
      (λ (h : (slice_get old i ≡ Some n) × (new ≡ old)).
      subst (λ (l : List Node). IsNumber l i (built (trees_of old) n)) (sym h.1)
      (record { inside = slice_get_within old i n h.0; tree = tree_of-node old i n h.0 table.earlier }))
      (λ (h : (Contains old n → ⊥) × (i ≡ length old) × (new ≡ old ++ n ∷ [])).
      subst (λ (l : List Node). IsNumber l i (built (trees_of old) n)) (sym h.2)
      (record { inside = omega (arith, size, h.1); tree = last_tree i h.1 }))
      placed

  -- each number that the table had keeps its tree
  pub placed_keeps : (i : ℕ) (new : List Node) → PlacedAt old n i new → KeepsTrees old new
  placed_keeps i new placed =
      ⊎_elim
      (λ (h : (slice_get old i ≡ Some n) × (new ≡ old)). subst (KeepsTrees old) (sym h.1) (λ j t is. is))
      (λ (h : (Contains old n → ⊥) × (i ≡ length old) × (new ≡ old ++ n ∷ [])). subst (KeepsTrees old) (sym h.2)
      keeps_more)
      placed

  pub placed_table : length old < 2 ^ 32 - 1 → (i : ℕ) (new : List Node) → PlacedAt old n i new → IsTable new
  placed_table room i new placed =
      ⊎_elim
      (λ (h : (slice_get old i ≡ Some n) × (new ≡ old)). subst IsTable (sym h.1) table)
      (λ (h : (Contains old n → ⊥) × (i ≡ length old) × (new ≡ old ++ n ∷ [])). subst IsTable (sym h.2)
      (table_more h.0 room))
      placed

  -- a table stays a table in a call that places a node, or fails and leaves it as it was
  pub answered_table : {E : Type 0} (r : Result ℕ E) (new : List Node) → length old < 2 ^ 32 - 1
      → IfOk r (λ i. PlacedAt old n i new) → OnErr r (new ≡ old) → IsTable new
  answered_table (Ok i) new room placed kept = placed_table room i new placed
  answered_table (Err e) new room placed kept = subst IsTable (sym kept) table

-- the first nodes of a table
module _ (nodes : List Node) (count : ℕ) where
  first_size : length (take count nodes) ≤ length nodes
  first_size =
      let parts = length-append (take count nodes) (drop count nodes) in
      let all = ap (λ (l : List Node). length l) (take-append-drop count nodes) in
      omega (arith, parts, all)

  first_tree : (i : ℕ) → i < length (take count nodes) → tree_of nodes i ≡ tree_of (take count nodes) i
  first_tree i inside =
      sym (ap (λ (l : List Node). tree_of l i) (take-append-drop count nodes))
      ∙ tree_of-append (take count nodes) (drop count nodes) i inside

  first_node : (i : ℕ) (n : Node) → slice_get (take count nodes) i ≡ Some n → slice_get nodes i ≡ Some n
  first_node i n at =
      let inside : i < length (take count nodes) = slice_get_within (take count nodes) i n at in
      slice_get-get_or nodes i n (omega (arith, first_size))
      ∙ ap (λ (l : List Node). Some (get_or l i n)) (sym (take-append-drop count nodes))
      ∙ ap Some (get_or_append_left (take count nodes) (drop count nodes) n i inside
      ∙ get_or_from_slice_get (take count nodes) i n n at)

  -- the first nodes of a table are a table
  pub table-first : IsTable nodes → IsTable (take count nodes)
  table-first table = record {
    earlier = λ i n at. table.earlier i n (first_node i n at);
    distinct = λ i j hi hj same. table.distinct i j (omega (arith, first_size)) (omega (arith, first_size))
        (first_tree i hi ∙ same ∙ sym (first_tree j hj));
    few = omega (arith, first_size, table.few);
  }

  -- a number among the first nodes keeps its tree
  pub number-first : (i : ℕ) (t : Value) → i < length (take count nodes) → IsNumber nodes i t
      → IsNumber (take count nodes) i t
  number-first i t inside h = record { inside = inside; tree = sym (first_tree i inside) ∙ h.tree }
