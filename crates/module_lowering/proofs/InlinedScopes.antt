-- The flat statement that a module becomes is scoped.
use Rattle.std.proofs.Common.{◌≡◌, ℕ, zero, suc, ◌+◌, ◌<◌, ◌≤◌, inl, inr, ◌&&◌, ◌||◌, Bool, true, false, if◌then◌else◌, ℤ, pos, List, [], ◌∷◌, ◌++◌, length, Option, Some, None, refl, sym, ap, ◌∙◌, subst, arith}
use Rattle.std.specs.Prelude.{bytes_eq, not}
use Rattle.std.specs.Option.{option_map}
use Rattle.std.proofs.lemmas.List.{length-append}
use Rattle.module_tree.specs.Memory.{Memory, first_word}
use Rattle.module_tree.specs.Trees.{Expression, Number, Named, Element, LengthOf, Operation, Select, Call, Expressions, NoMore, More, Statement, Declare, SetVariable, SetElement, Choice, Loop, Return, Invoke, Nested, Block, Nothing, Then, Parameter, OfWord, OfArray, Function, Item, Module, name_of}
use Rattle.module_tree.specs.Values.{Names, array_of}
use Rattle.module_tree.specs.FirstWords.{number_named, known_at, sizes_of}
use Rattle.module_tree.specs.Meaning.{names_of, function_named}
use Rattle.flat_tree.specs.Trees.{Term}
use Rattle.flat_core.specs.Core.{InScope}
use Rattle.module_calls.specs.Tails.{always_in, followed, choice_before, tails, tailed_function, tailed_all, tailed}
use Rattle.module_calls.specs.Fine.{word_names, among}
use Rattle.module_calls.specs.Inlining.{Place, Binding, Lowered, Passed, AllPassed, Inlines, with_bindings, bind, scalar_term, element_term, term_named, set_scalar, set_named, put_named, lowered, passed, statement, block, set_first, with_parameters, passed_arrays, body_of, inlines_at, inlined}
use Rattle.module_calls.specs.FirstAssignments.{is_null, is_single, elements_set, item_set, items_set}
use Rattle.module_calls.specs.Promise.{flattened}
use Rattle.module_calls.proofs.Places.{BelowIf, NameItems}
use Rattle.module_lowering.specs.Shape.{ScopedTerm, Scoped}
use Rattle.module_lowering.specs.Naming.{single_named, single_at, array_names, statement_sets, block_sets, settable_in, functions_set, SetsScalars}
use Rattle.module_lowering.proofs.Scopes.{Inside, inside_same, inside_then, inside_more, term_larger, statement_larger}
use Rattle.flat_tree.specs.Trees as flat

first_true : (a b : Bool) → (a && b) ≡ true → a ≡ true
first_true true b e = refl
first_true false b e = absurd (let f : false ≡ true = e in cc)

second_true : (a b : Bool) → (a && b) ≡ true → b ≡ true
second_true true b e = e
second_true false b e = absurd (let f : false ≡ true = e in cc)

first_false : (a b : Bool) → (a || b) ≡ false → a ≡ false
first_false true b e = absurd (let f : true ≡ false = e in cc)
first_false false b e = refl

second_false : (a b : Bool) → (a || b) ≡ false → b ≡ false
second_false true b e = absurd (let f : true ≡ false = e in cc)
second_false false b e = e

not_true : (a : Bool) → not a ≡ true → a ≡ false
not_true true e = absurd (let f : false ≡ true = e in cc)
not_true false e = refl

-- the scope under some new variables
abbrev opened : ℕ → ℕ → List ℕ → List ℕ
opened n zero scope = scope
opened n (suc count) scope = opened (n + 1) count (n ∷ scope)

opened_more : (n a b : ℕ) (scope : List ℕ) → opened n (a + b) scope ≡ opened (n + a) b (opened n a scope)
opened_more n zero b scope =
    ap (λ c. opened n c scope) (let e : 0 + b ≡ b = omega arith in e)
    ∙ ap (λ k. opened k b scope) (let f : n ≡ n + 0 = omega arith in f)
opened_more n (suc a) b scope =
    ap (λ c. opened n c scope) (let e : suc a + b ≡ suc (a + b) = omega arith in e)
    ∙ opened_more (n + 1) a b (n ∷ scope)
    ∙ ap (λ k. opened k b (opened (n + 1) a (n ∷ scope))) (let f : n + 1 + a ≡ n + suc a = omega arith in f)

abbrev place_names : List Place → List (List ℕ)
place_names [] = []
place_names (p ∷ places) = p.name ∷ place_names places

module _ (all : ℕ) (is_scalar : ℕ → Bool) where
  opened_inside : (n count : ℕ) (scope : List ℕ) → Inside all scope (opened n count scope)
  opened_inside n zero scope = inside_same all scope
  opened_inside n (suc count) scope =
      inside_then (inside_more n (inside_same all scope)) (opened_inside (n + 1) count (n ∷ scope))

  -- a local in scope
  record Has (scope : List ℕ) (k : ℕ) : Type 1 where
    is : (P : ℕ → Type 0) → InScope all P scope k

  has_larger : {scope larger : List ℕ} (k : ℕ) → Inside all scope larger → Has scope k → Has larger k
  has_larger k f has = record { is = λ P. f.grows P k (has.is P) }

  newest : (k : ℕ) (scope : List ℕ) → Has (k ∷ scope) k
  newest k scope = record { is = λ P. inl refl }

  abbrev HasPlaces : List ℕ → List Place → Type 1
  HasPlaces scope [] = Unit {1}
  HasPlaces scope (p ∷ places) = Has scope p.number × HasPlaces scope places

  places_larger : {scope larger : List ℕ} (places : List Place) → Inside all scope larger → HasPlaces scope places
      → HasPlaces larger places
  places_larger [] f has = tt
  places_larger (p ∷ places) f has = (has_larger p.number f has.0, places_larger places f has.1)

  -- a variable of the module
  item_in : (P : ℕ → Type 0) (scope : List ℕ) (k : ℕ) → k < all → P k → InScope all P scope k
  item_in P [] k lt is = (lt, is)
  item_in P (j ∷ scope) k lt is = inr (item_in P scope k lt is)

  -- bindings in order
  abbrev Bound : List ℕ → ℕ → List Binding → Type 0
  Bound scope n [] = Unit {0}
  Bound scope n (b ∷ bs) =
      ScopedTerm all is_scalar scope b.first × Scoped all is_scalar (n ∷ scope) b.body × Bound (n ∷ scope) (n + 1) bs

  bound_joined : (scope : List ℕ) (n : ℕ) (bs cs : List Binding) → Bound scope n bs
      → Bound (opened n (length bs) scope) (n + length bs) cs → Bound scope n (bs ++ cs)
  bound_joined scope n [] cs one other = subst (λ k. Bound scope k cs) (let e : n + 0 ≡ n = omega arith in e) other
  bound_joined scope n (b ∷ bs) cs one other = (
    one.0,
    one.1,
    bound_joined (n ∷ scope) (n + 1) bs cs one.2
        (subst (λ k. Bound (opened (n + 1) (length bs) (n ∷ scope)) k cs)
        (let same : n + length (b ∷ bs) ≡ n + 1 + length bs = omega arith in same) other),
  )

  with_scoped : (scope : List ℕ) (n : ℕ) (bs : List Binding) (s : flat.Statement) → Bound scope n bs
      → Scoped all is_scalar (opened n (length bs) scope) s → Scoped all is_scalar scope (with_bindings n bs s)
  with_scoped scope n [] s is more = more
  with_scoped scope n (b ∷ bs) s is more = (is.0, (is.1, with_scoped (n ∷ scope) (n + 1) bs s is.2 more))

  bind_scoped : (scope inner : List ℕ) (n : ℕ) (bs : List Binding) → Bound scope n bs
      → Inside all (opened n (length bs) scope) inner → Scoped all is_scalar inner (bind n bs)
  bind_scoped scope inner n [] is f = tt
  bind_scoped scope inner n (b ∷ bs) is f =
      let here = inside_then (opened_inside (n + 1) (length bs) (n ∷ scope)) f in (
        (
          here.grows (λ k. is_scalar k ≡ true) n (inl refl),
          term_larger all is_scalar (inside_then (inside_more n (inside_same all scope)) here) b.first is.0,
        ),
        (statement_larger all is_scalar here b.body is.1, bind_scoped (n ∷ scope) inner (n + 1) bs is.2 f),
      )

  -- arguments
  abbrev Arguments : List ℕ → List Passed → Type 0
  Arguments scope [] = Unit {0}
  Arguments scope (a ∷ list) = ScopedTerm all is_scalar scope a.term × BelowIf all a.array × Arguments scope list

  arguments_larger : {scope larger : List ℕ} (list : List Passed) → Inside all scope larger → Arguments scope list
      → Arguments larger list
  arguments_larger [] f is = tt
  arguments_larger (a ∷ list) f is = (term_larger all is_scalar f a.term is.0, is.1, arguments_larger list f is.2)

  record InlinesScoped (inlines : Inlines) : Type 1 where
    scoped : (f : List ℕ) (list : List Passed) (r : ℕ) (scope : List ℕ) → Has scope r → Arguments scope list
        → Scoped all is_scalar scope (inlines f list r).body
    first : (f : List ℕ) (list : List Passed) (r : ℕ) (scope : List ℕ)
        → ScopedTerm all is_scalar scope (inlines f list r).first

  record GoodTerm (scope : List ℕ) (n : ℕ) (h : Lowered) : Type 0 where
    before : Bound scope n h.before
    term : ScopedTerm all is_scalar (opened n (length h.before) scope) h.term

  record GoodList (scope : List ℕ) (n : ℕ) (h : AllPassed) : Type 0 where
    before : Bound scope n h.before
    list : Arguments (opened n (length h.before) scope) h.list

  -- which names may be assigned to
  abbrev SettableIf : Option ℕ → Type 0
  SettableIf None = Unit {0}
  SettableIf (Some k) = (k < all) × (is_scalar k ≡ true)

  scalar_scoped : (scope : List ℕ) (o : Option ℕ) → BelowIf all o → ScopedTerm all is_scalar scope (scalar_term o)
  scalar_scoped scope None below = tt
  scalar_scoped scope (Some k) below = item_in (λ j. Unit {0}) scope k below tt

  element_scoped : (scope : List ℕ) (o : Option ℕ) (i : Term) → BelowIf all o → ScopedTerm all is_scalar scope i
      → ScopedTerm all is_scalar scope (element_term o i)
  element_scoped scope None i below is = tt
  element_scoped scope (Some k) i below is = (item_in (λ j. Unit {0}) scope k below tt, is)

  put_scoped : (scope : List ℕ) (o : Option ℕ) (i e : Term) → BelowIf all o → ScopedTerm all is_scalar scope i
      → ScopedTerm all is_scalar scope e → Scoped all is_scalar scope (put_named o i e)
  put_scoped scope None i e below is also = tt
  put_scoped scope (Some k) i e below is also = (item_in (λ j. Unit {0}) scope k below tt, is, also)

  set_scoped : (scope : List ℕ) (o : Option ℕ) (e : Term) → SettableIf o → ScopedTerm all is_scalar scope e
      → Scoped all is_scalar scope (set_scalar o e)
  set_scoped scope None e set is = tt
  set_scoped scope (Some k) e set is = (item_in (λ j. is_scalar j ≡ true) scope k set.0 set.1, is)

  module _ (sizes : ℕ → ℕ) (inlines : Inlines) (names : Names) (items : NameItems all names)
      (follow : InlinesScoped inlines) where
    term_scoped : (scope : List ℕ) (places : List Place) (x : List ℕ) → HasPlaces scope places
        → ScopedTerm all is_scalar scope (term_named names places x)
    term_scoped scope [] x has = scalar_scoped scope (names x) (items.below x)
    term_scoped scope (p ∷ places) x has = by (bytes_eq x p.name) (term_scoped scope places x has.1)
      where
        by : (b : Bool) → ScopedTerm all is_scalar scope (term_named names places x)
            → ScopedTerm all is_scalar scope (if b then flat.Scalar p.number else term_named names places x)
        by true rest = has.0.is (λ k. Unit {0})
        by false rest = rest

    named_set : (scope : List ℕ) (places : List Place) (x : List ℕ) (e : Term) (settable : Bool) → HasPlaces scope places
        → (among (place_names places) x || settable) ≡ true → (settable ≡ true → SettableIf (names x))
        → ScopedTerm all is_scalar scope e → Scoped all is_scalar scope (set_named names places x e)
    named_set scope [] x e settable has may set is = set_scoped scope (names x) e (set may) is
    named_set scope (p ∷ places) x e settable has may set is =
        by (bytes_eq x p.name) may (λ more. named_set scope places x e settable has.1 more set is)
      where
        by : (b : Bool) → ((b || among (place_names places) x) || settable) ≡ true
            → ((among (place_names places) x || settable) ≡ true
            → Scoped all is_scalar scope (set_named names places x e))
            → Scoped all is_scalar scope (if b then flat.Set p.number e else set_named names places x e)
        by true may rest = (has.0.is (λ k. is_scalar k ≡ true), is)
        by false may rest = rest may

    array_under : (e : Expression) → BelowIf all (array_of names e)
    array_under (Named x) = items.below x
    array_under e = tt

    mutual
      expression_scoped : (places : List Place) (e : Expression) (scope : List ℕ) (n : ℕ) → HasPlaces scope places
          → GoodTerm scope n (lowered sizes inlines names places e n)
      expression_scoped places (Number z) scope n has = record { before = tt; term = tt }
      expression_scoped places (Named x) scope n has = record { before = tt; term = term_scoped scope places x has }
      expression_scoped places (Element x i) scope n has =
          let h = lowered sizes inlines names places i n in
          let g = expression_scoped places i scope n has in
          record {
            before = g.before;
            term = element_scoped (opened n (length h.before) scope) (names x) h.term (items.below x) g.term;
          }
      expression_scoped places (LengthOf x) scope n has = record { before = tt; term = tt }
      expression_scoped places (Operation operator a b) scope n has =
          let h = lowered sizes inlines names places a n in
          let m = n + length h.before in
          let k = lowered sizes inlines names places b m in
          let inner = opened n (length h.before) scope in
          let g = expression_scoped places a scope n has in
          let q = expression_scoped places b inner m (places_larger places (opened_inside n (length h.before) scope) has) in
          let long = length-append h.before k.before in
          record {
            before = bound_joined scope n h.before k.before g.before q.before;
            term =
                subst (λ s. ScopedTerm all is_scalar s h.term × ScopedTerm all is_scalar s k.term)
                (sym (ap (λ c. opened n c scope) long ∙ opened_more n (length h.before) (length k.before) scope))
                (term_larger all is_scalar (opened_inside m (length k.before) inner) h.term g.term, q.term);
          }
      expression_scoped places (Select c a b) scope n has =
          let h = lowered sizes inlines names places c n in
          let m = n + length h.before in
          let x = lowered sizes inlines names places a m in
          let p = m + length x.before in
          let y = lowered sizes inlines names places b p in
          let wide = opened_inside n (length h.before) scope in
          let inner = opened n (length h.before) scope in
          let deep = opened m (length x.before) inner in
          let deeper = opened_inside m (length x.before) inner in
          let deepest = opened_inside p (length y.before) deep in
          let g = expression_scoped places c scope n has in
          let one = expression_scoped places a inner m (places_larger places wide has) in
          let other = expression_scoped places b deep p (places_larger places (inside_then wide deeper) has) in
          let whole = x.before ++ y.before in
          let long = length-append h.before whole in
          let also = length-append x.before y.before in
          record {
            before =
                bound_joined scope n h.before whole g.before
                (bound_joined inner m x.before y.before one.before other.before);
            term =
                subst (λ s. ScopedTerm all is_scalar s h.term × ScopedTerm all is_scalar s x.term
                × ScopedTerm all is_scalar s y.term)
                (sym (ap (λ c. opened n c scope) long ∙ opened_more n (length h.before) (length whole) scope
                ∙ ap (λ c. opened m c inner) also ∙ opened_more m (length x.before) (length y.before) inner)) (
                  term_larger all is_scalar (inside_then deeper deepest) h.term g.term,
                  term_larger all is_scalar deepest x.term one.term,
                  other.term,
                );
          }
      expression_scoped places (Call f es) scope n has =
          let h = passed sizes inlines names places es n in
          let r = n + length h.before in
          let b = inlines f h.list r in
          let inner = opened n (length h.before) scope in
          let g = arguments_scoped places es scope n has in
          let long = length-append h.before (b ∷ []) in
          let in_scope = newest r inner in
          record {
            before =
                bound_joined scope n h.before (b ∷ []) g.before (
                  follow.first f h.list r inner,
                  follow.scoped f h.list r (r ∷ inner) in_scope
                      (arguments_larger h.list (inside_more r (inside_same all inner)) g.list),
                  tt,
                );
            term =
                subst (λ s. InScope all (λ k. Unit {0}) s r)
                (sym (ap (λ c. opened n c scope) long ∙ opened_more n (length h.before) 1 scope))
                (in_scope.is (λ k. Unit {0}));
          }

      arguments_scoped : (places : List Place) (es : Expressions) (scope : List ℕ) (n : ℕ) → HasPlaces scope places
          → GoodList scope n (passed sizes inlines names places es n)
      arguments_scoped places NoMore scope n has = record { before = tt; list = tt }
      arguments_scoped places (More e es) scope n has =
          let h = lowered sizes inlines names places e n in
          let m = n + length h.before in
          let k = passed sizes inlines names places es m in
          let inner = opened n (length h.before) scope in
          let g = expression_scoped places e scope n has in
          let q = arguments_scoped places es inner m (places_larger places (opened_inside n (length h.before) scope) has) in
          let long = length-append h.before k.before in
          record {
            before = bound_joined scope n h.before k.before g.before q.before;
            list =
                subst (λ s. ScopedTerm all is_scalar s h.term × BelowIf all (array_of names e) × Arguments s k.list)
                (sym (ap (λ c. opened n c scope) long ∙ opened_more n (length h.before) (length k.before) scope)) (
                  term_larger all is_scalar (opened_inside m (length k.before) inner) h.term g.term,
                  array_under e,
                  q.list,
                );
          }

    -- statements
    module _ (settable : List ℕ → Bool) (set : (x : List ℕ) → settable x ≡ true → SettableIf (names x)) (result : ℕ) where
      mutual
        statement_scoped : (places : List Place) (s : Statement) (own : List (List ℕ)) → place_names places ≡ own
            → statement_sets settable own s ≡ true → (scope : List ℕ) (n : ℕ) → Has scope result → HasPlaces scope places
            → Scoped all is_scalar scope (statement sizes inlines names result places s n)
        statement_scoped places (Declare label x e) own same is scope n r has =
            let h = lowered sizes inlines names places e n in
            let g = expression_scoped places e scope n has in
            with_scoped scope n h.before flat.Skip g.before tt
        statement_scoped places (SetVariable x e) own same is scope n r has =
            let h = lowered sizes inlines names places e n in
            let g = expression_scoped places e scope n has in
            let inner = opened n (length h.before) scope in
            with_scoped scope n h.before (set_named names places x h.term) g.before
            (named_set inner places x h.term (settable x)
            (places_larger places (opened_inside n (length h.before) scope) has)
            (subst (λ o. (among o x || settable x) ≡ true) (sym same) is) (set x) g.term)
        statement_scoped places (SetElement x i e) own same is scope n r has =
            let h = lowered sizes inlines names places e n in
            let m = n + length h.before in
            let k = lowered sizes inlines names places i m in
            let inner = opened n (length h.before) scope in
            let g = expression_scoped places e scope n has in
            let q = expression_scoped places i inner m (places_larger places (opened_inside n (length h.before) scope) has) in
            let long = length-append h.before k.before in
            with_scoped scope n (h.before ++ k.before) (put_named (names x) k.term h.term)
            (bound_joined scope n h.before k.before g.before q.before)
            (subst (λ s. Scoped all is_scalar s (put_named (names x) k.term h.term))
            (sym (ap (λ c. opened n c scope) long ∙ opened_more n (length h.before) (length k.before) scope))
            (put_scoped (opened m (length k.before) inner) (names x) k.term h.term (items.below x) q.term
            (term_larger all is_scalar (opened_inside m (length k.before) inner) h.term g.term)))
        statement_scoped places (Choice t a b) own same is scope n r has =
            let h = lowered sizes inlines names places t n in
            let g = expression_scoped places t scope n has in
            let wide = opened_inside n (length h.before) scope in
            let inner = opened n (length h.before) scope in
            with_scoped scope n h.before _ g.before (
              g.term,
              block_scoped places a own same (first_true _ _ is) inner n (has_larger result wide r)
                  (places_larger places wide has),
              block_scoped places b own same (second_true (block_sets settable own a) _ is) inner n
                  (has_larger result wide r) (places_larger places wide has),
            )
        statement_scoped places (Loop t body step) own same is scope n r has =
            let h = lowered sizes inlines names places t n in
            let g = expression_scoped places t scope n has in
            let wide = opened_inside n (length h.before) scope in
            let inner = opened n (length h.before) scope in
            with_scoped scope n h.before _ g.before (
              g.term,
              (
                (
                  block_scoped places body own same (first_true _ _ is) inner n (has_larger result wide r)
                      (places_larger places wide has),
                  block_scoped places step own same (second_true (block_sets settable own body) _ is) inner n
                      (has_larger result wide r) (places_larger places wide has),
                ),
                bind_scoped scope inner n h.before g.before (inside_same all inner),
              ),
            )
        statement_scoped places (Return e) own same is scope n r has =
            let h = lowered sizes inlines names places e n in
            let g = expression_scoped places e scope n has in
            let there = has_larger result (opened_inside n (length h.before) scope) r in
            with_scoped scope n h.before (flat.Set result h.term) g.before
            (there.is (λ k. is_scalar k ≡ true), g.term)
        statement_scoped places (Invoke f es) own same is scope n r has =
            let h = lowered sizes inlines names places (Call f es) n in
            let g = expression_scoped places (Call f es) scope n has in
            with_scoped scope n h.before flat.Skip g.before tt
        statement_scoped places (Nested body) own same is scope n r has =
            block_scoped places body own same is scope n r has

        block_scoped : (places : List Place) (b : Block) (own : List (List ℕ)) → place_names places ≡ own
            → block_sets settable own b ≡ true → (scope : List ℕ) (n : ℕ) → Has scope result → HasPlaces scope places
            → Scoped all is_scalar scope (block sizes inlines names result places b n)
        block_scoped places Nothing own same is scope n r has = tt
        block_scoped places (Then (Declare label x e) rest) own same is scope n r has =
            let h = lowered sizes inlines names places e n in
            let k = n + length h.before in
            let g = expression_scoped places e scope n has in
            let inner = opened n (length h.before) scope in
            let wide = inside_more k (opened_inside n (length h.before) scope) in
            with_scoped scope n h.before _ g.before (
              g.term,
              block_scoped (record { name = x; number = k } ∷ places) rest (x ∷ own) (ap (λ o. x ∷ o) same) is (k ∷ inner)
                  (k + 1) (has_larger result wide r) (newest k inner, places_larger places wide has),
            )
        block_scoped places (Then first rest) own same is scope n r has = (
          statement_scoped places first own same (first_true (statement_sets settable own first) _ is) scope n r has,
          block_scoped places rest own same (second_true (statement_sets settable own first) _ is) scope n r has,
        )

  -- the parameters of a call
  parameters_scoped : (ps : List Parameter) (list : List Passed) (n : ℕ) (body : List Place → ℕ → flat.Statement)
      (scope : List ℕ) → Arguments scope list
      → ((places : List Place) (k : ℕ) (larger : List ℕ) → Inside all scope larger → HasPlaces larger places
      → place_names places ≡ word_names ps → Scoped all is_scalar larger (body places k))
      → Scoped all is_scalar scope (with_parameters ps list n body)
  parameters_scoped [] list n body scope is go = go [] n scope (inside_same all scope) tt refl
  parameters_scoped (OfWord label x ∷ ps) [] n body scope is go =
      parameters_scoped ps [] n (set_first x (flat.Number (pos 0)) body) scope is
      (λ places k larger f has same. (
        tt,
        go (record { name = x; number = k } ∷ places) (k + 1) (k ∷ larger) (inside_more k f)
            (newest k larger, places_larger places (inside_more k (inside_same all larger)) has)
            (ap (λ o. x ∷ o) same),
      ))
  parameters_scoped (OfWord label x ∷ ps) (a ∷ list) n body scope is go =
      parameters_scoped ps list n (set_first x a.term body) scope is.2
      (λ places k larger f has same. (
        term_larger all is_scalar f a.term is.0,
        go (record { name = x; number = k } ∷ places) (k + 1) (k ∷ larger) (inside_more k f)
            (newest k larger, places_larger places (inside_more k (inside_same all larger)) has)
            (ap (λ o. x ∷ o) same),
      ))
  parameters_scoped (OfArray x ∷ ps) [] n body scope is go = parameters_scoped ps [] n body scope is go
  parameters_scoped (OfArray x ∷ ps) (a ∷ list) n body scope is go =
      parameters_scoped ps list n body scope is.2 go

  names_under : (names : Names) → NameItems all names → (ps : List Parameter) (list : List Passed) (scope : List ℕ)
      → Arguments scope list → (x : List ℕ) → BelowIf all (names_of names ps (passed_arrays list) x)
  names_under names items [] list scope is x = items.below x
  names_under names items (OfWord label y ∷ ps) [] scope is x = items.below x
  names_under names items (OfArray y ∷ ps) [] scope is x = items.below x
  names_under names items (OfWord label y ∷ ps) (a ∷ list) scope is x = names_under names items ps list scope is.2 x
  names_under names items (OfArray y ∷ ps) (a ∷ list) scope is x =
      by (bytes_eq x y) (names_under names items ps list scope is.2 x)
    where
      by : (b : Bool) → BelowIf all (names_of names ps (passed_arrays list) x)
          → BelowIf all (if b then a.array else names_of names ps (passed_arrays list) x)
      by true rest = is.1
      by false rest = rest

names_other : (names : Names) (ps : List Parameter) (arrays : List (Option ℕ)) (x : List ℕ)
    → among (array_names ps) x ≡ false → names_of names ps arrays x ≡ names x
names_other names [] arrays x e = refl
names_other names (OfWord label y ∷ ps) [] x e = refl
names_other names (OfArray y ∷ ps) [] x e = refl
names_other names (OfWord label y ∷ ps) (a ∷ arrays) x e = names_other names ps arrays x e
names_other names (OfArray y ∷ ps) (a ∷ arrays) x e =
    ap (λ b. if b then a else names_of names ps arrays x)
    (first_false (bytes_eq x y) (among (array_names ps) x) e)
    ∙ names_other names ps arrays x (second_false (bytes_eq x y) (among (array_names ps) x) e)

-- the items
number_under : (items : List Item) (x : List ℕ) → BelowIf (length items) (number_named items x)
number_under [] x = tt
number_under (item ∷ items) x = by (bytes_eq x (name_of item)) (number_named items x) (number_under items x)
  where
    by : (b : Bool) (o : Option ℕ) → BelowIf (length items) o
        → BelowIf (suc (length items)) (if b then Some 0 else option_map (λ k. suc k) o)
    by true o rest = omega arith
    by false None rest = tt
    by false (Some k) rest = omega (arith, rest)

single_number : (items : List Item) (x : List ℕ) → single_named items x ≡ true
    → SettableIf (length items) (single_at items) (number_named items x)
single_number [] x e = tt
single_number (item ∷ items) x e =
    by (bytes_eq x (name_of item)) (number_named items x) e (single_number items x)
  where
    by : (b : Bool) (o : Option ℕ) → (if b then is_single item else single_named items x) ≡ true
        → (single_named items x ≡ true → SettableIf (length items) (single_at items) o)
        → SettableIf (suc (length items)) (single_at (item ∷ items)) (if b then Some 0 else option_map (λ k. suc k) o)
    by true o e rest = (omega arith, e)
    by false None e rest = tt
    by false (Some k) e rest = let is = rest e in (let lt = is.0 in omega (arith, lt), is.1)

-- moving returns keeps the targets of assignments
module _ (settable : List ℕ → Bool) where
  followed_sets : (own : List (List ℕ)) (a rest : Block) → block_sets settable own a ≡ true
      → block_sets settable own rest ≡ true → block_sets settable own (followed a rest) ≡ true
  followed_sets own a Nothing e f = e
  followed_sets own a (Then first rest) e f = both (block_sets settable own a) _ e f
    where
      both : (x y : Bool) → x ≡ true → y ≡ true → (x && y) ≡ true
      both true y e f = f
      both false y e f = e

  joined_true : (x y : Bool) → x ≡ true → y ≡ true → (x && y) ≡ true
  joined_true true y e f = f
  joined_true false y e f = e

  choice_sets : (own : List (List ℕ)) (t : Expression) (a b rest : Block) (x y : Bool) → block_sets settable own a ≡ true
      → block_sets settable own b ≡ true → block_sets settable own rest ≡ true
      → block_sets settable own (choice_before t a b x y rest) ≡ true
  choice_sets own t a b rest true y e f g =
      joined_true (block_sets settable own a && block_sets settable own (followed b rest)) true
      (joined_true (block_sets settable own a) _ e (followed_sets own b rest f g)) refl
  choice_sets own t a b rest false true e f g =
      joined_true (block_sets settable own (followed a rest) && block_sets settable own b) true
      (joined_true (block_sets settable own (followed a rest)) _ (followed_sets own a rest e g) f) refl
  choice_sets own t a b rest false false e f g =
      joined_true (block_sets settable own a && block_sets settable own b) _ (joined_true (block_sets settable own a) _ e f) g

  tails_set : (own : List (List ℕ)) (b : Block) → block_sets settable own b ≡ true
      → block_sets settable own (tails b) ≡ true
  tails_set own Nothing is = refl
  tails_set own (Then (Choice t a b) rest) is =
      let both = first_true (block_sets settable own a && block_sets settable own b) (block_sets settable own rest) is in
      choice_sets own t (tails a) (tails b) (tails rest) (always_in a) (always_in b)
      (tails_set own a (first_true _ _ both)) (tails_set own b (second_true (block_sets settable own a) _ both))
      (tails_set own rest
      (second_true (block_sets settable own a && block_sets settable own b) (block_sets settable own rest) is))
  tails_set own (Then (Declare label x e) rest) is = tails_set (x ∷ own) rest is
  tails_set own (Then first rest) is =
      joined_true (statement_sets settable own first) _ (first_true (statement_sets settable own first) _ is)
      (tails_set own rest (second_true (statement_sets settable own first) _ is))

function_sets : (items : List Item) (functions : List Function) → functions_set items functions ≡ true → (name : List ℕ)
    (f : Function) → function_named (tailed_all functions) name ≡ Some f
    → block_sets (settable_in items f.parameters) (word_names f.parameters) f.body ≡ true
function_sets items [] is name f found = absurd (let g : ◌≡◌ {A = Option Function} None (Some f) = found in cc)
function_sets items (g ∷ functions) is name f found =
    by (bytes_eq name g.name) found
    (function_sets items functions
    (second_true (block_sets (settable_in items g.parameters) (word_names g.parameters) g.body) _ is) name f)
  where
    by : (b : Bool) → (if b then Some (tailed_function g) else function_named (tailed_all functions) name) ≡ Some f
        → (function_named (tailed_all functions) name ≡ Some f
        → block_sets (settable_in items f.parameters) (word_names f.parameters) f.body ≡ true)
        → block_sets (settable_in items f.parameters) (word_names f.parameters) f.body ≡ true
    by true found rest =
        subst (λ (h : Function). block_sets (settable_in items h.parameters) (word_names h.parameters) h.body ≡ true)
        (let e : ◌≡◌ {A = Option Function} (Some (tailed_function g)) (Some f) = found in
        let alike : tailed_function g ≡ f = cc in
        alike)
        (tails_set (settable_in items g.parameters) (word_names g.parameters) g.body (first_true _ _ is))
    by false found rest = rest found

-- calls, however deep they are nested
module _ (m : Module) (sets : SetsScalars m) where
  abbrev items_of : List Item
  items_of = m.items

  call_scoped : (inlines : Inlines) → InlinesScoped (length m.items) (single_at m.items) inlines → (name : List ℕ)
      (o : Option Function) → function_named (tailed_all m.functions) name ≡ o → (list : List Passed) (r : ℕ)
      (scope : List ℕ) → Has (length m.items) (single_at m.items) scope r
      → Arguments (length m.items) (single_at m.items) scope list
      → Scoped (length m.items) (single_at m.items) scope
      (body_of (sizes_of m.items) (number_named m.items) inlines o list r)
  call_scoped inlines follow name None found list r scope has is = tt
  call_scoped inlines follow name (Some f) found list r scope has is =
      let all = length m.items in
      let single = single_at m.items in
      let arrays = passed_arrays list in
      let base : NameItems all (number_named m.items) = record { below = number_under m.items } in
      parameters_scoped all single f.parameters list (r + 1) _ scope is
      (λ places k larger wide there same.
      block_scoped all single (sizes_of m.items) inlines (names_of (number_named m.items) f.parameters arrays)
      (record { below = names_under all single (number_named m.items) base f.parameters list scope is }) follow
      (settable_in m.items f.parameters)
      (λ x e.
      subst (SettableIf all single)
      (sym (names_other (number_named m.items) f.parameters arrays x
      (not_true (among (array_names f.parameters) x) (first_true _ _ e))))
      (single_number m.items x (second_true (not (among (array_names f.parameters) x)) _ e)))
      r places f.body (word_names f.parameters) same (function_sets m.items m.functions sets name f found) larger k
      (has_larger all single r wide has) there)

  calls_scoped : (depth : ℕ)
      → InlinesScoped (length m.items) (single_at m.items) (inlines_at (sizes_of m.items) (tailed m) depth)
  unfolding inlines_at
  calls_scoped zero = record { scoped = λ f list r scope has is. tt; first = λ f list r scope. tt }
  calls_scoped (suc depth) = record {
    scoped = λ f list r scope has is.
        call_scoped (inlines_at (sizes_of m.items) (tailed m) depth) (calls_scoped depth) f
        (function_named (tailed_all m.functions) f) refl list r scope has is;
    first = λ f list r scope. tt;
  }

  inlined_scoped : (main : List ℕ) → Scoped (length m.items) (single_at m.items) [] (inlined (tailed m) main)
  inlined_scoped main =
      let all = length m.items in
      let follow = calls_scoped (length (tailed_all m.functions)) in
      (follow.first main [] all [], (follow.scoped main [] all (all ∷ []) (newest all (single_at m.items) all []) tt, tt))

-- the first assignments
elements_scoped : (all : ℕ) (is_scalar : ℕ → Bool) (k i : ℕ) (words : List ℤ) → k < all
    → Scoped all is_scalar [] (elements_set k i words)
elements_scoped all is_scalar k i [] lt = tt
elements_scoped all is_scalar k i (word ∷ words) lt =
    (by (is_null word), elements_scoped all is_scalar k (i + 1) words lt)
  where
    by : (b : Bool) → Scoped all is_scalar [] (if b then flat.Skip else flat.Put k (flat.Number (pos i)) (flat.Number word))
    by true = tt
    by false = ((lt, tt), tt, tt)

item_scoped : (all : ℕ) (is_scalar : ℕ → Bool) (k : ℕ) (single : Bool) (words : List ℤ) → k < all → is_scalar k ≡ single
    → Scoped all is_scalar [] (item_set single k words)
item_scoped all is_scalar k true words lt is = by (is_null (first_word words))
  where
    by : (b : Bool) → Scoped all is_scalar [] (if b then flat.Skip else flat.Set k (flat.Number (first_word words)))
    by true = tt
    by false = ((lt, is), tt)
item_scoped all is_scalar k false words lt is = elements_scoped all is_scalar k 0 words lt

items_scoped : (all : ℕ) (is_scalar : ℕ → Bool) (start : Memory) (k : ℕ) (items : List Item) → k + length items ≤ all
    → ((i : ℕ) → i < length items → is_scalar (k + i) ≡ single_at items i)
    → Scoped all is_scalar [] (items_set start k items)
items_scoped all is_scalar start k [] le is = tt
items_scoped all is_scalar start k (item ∷ items) le is = (
  item_scoped all is_scalar k (is_single item) (start k) (omega (arith, le))
      (ap is_scalar (let e : k ≡ k + 0 = omega arith in e) ∙ is 0 (omega arith)),
  items_scoped all is_scalar start (k + 1) items (omega (arith, le))
      (λ i lt. ap is_scalar (let e : k + 1 + i ≡ k + suc i = omega arith in e) ∙ is (suc i) (omega (arith, lt))),
)

pub flattened_scoped : (m : Module) (main : List ℕ) → SetsScalars m
    → Scoped (length m.items) (single_at m.items) [] (flattened m main)
flattened_scoped m main sets = (
  items_scoped (length m.items) (single_at m.items) (known_at m.items (length m.items)) 0 m.items (omega arith)
      (λ i lt. ap (single_at m.items) (let e : 0 + i ≡ i = omega arith in e)),
  inlined_scoped m sets main,
)
