-- The bindings of an expression do what evaluating it does.
use Rattle.std.proofs.Common.{◌≡◌, ℕ, ◌+◌, ◌<◌, ◌≤◌, Bool, if◌then◌else◌, ℤ, List, [], ◌∷◌, ◌++◌, length, Option, Some, None, refl, sym, ap, ◌∙◌, subst, ⊎_elim, arith}
use Rattle.std.proofs.lemmas.Bool.{cases_lt}
use Rattle.module_tree.specs.Operators.{result, is_true}
use Rattle.module_tree.specs.Memory.{Memory, word_at, first_word}
use Rattle.module_tree.specs.Trees.{Expression, Number, Named, Element, LengthOf, Operation, Select, Call, Expressions, NoMore, More}
use Rattle.module_tree.specs.Values.{LocalVariable, Names, words_named, Valued, worth, for_value, Argument, Given, for_given, Called, for_call, Calls, array_of, valued, given}
use Rattle.flat_tree.specs.Meaning.{State, value, with_scalar, run}
use Rattle.flat_tree.specs.Keeps.{Agree}
use Rattle.flat_tree.proofs.Agreeing.{agree_same, agree_then, agree_fewer}
use Rattle.module_calls.specs.Inlining.{Place, Passed, Inlines, bind, lowered, passed, element_term}
use Rattle.module_calls.specs.Fine.{FineExpression, FineExpressions}
use Rattle.module_calls.proofs.Bindings.{then_skip}
use Rattle.module_calls.proofs.Places.{Ordered, Holds, BelowIf, NameItems, outer_from, holds_same, read_same, element_same}
use Rattle.module_calls.proofs.Coming.{NoneComes, OneComes, ValueComes, AreGiven, GivenComes, CallComes, NoCall, OneCall, CallsFollow, ArePure, then_comes, value_then, worth_comes}
use Rattle.flat_tree.specs.Trees as flat

pub ordered_more : (low : ℕ) {n p : ℕ} (places : List Place) → n ≤ p → Ordered low n places → Ordered low p places
ordered_more low [] le o = tt
ordered_more low (p ∷ places) le o = let upper = o.1 in (o.0, omega (arith, upper, le), o.2)

-- a memory that has the words of the module's variables and of the local variables
pub record Here (all : ℕ) (frame : List LocalVariable) (memory : Memory) (places : List Place) (l : Memory) : Type 0 where
  pub agree : Agree all memory l
  pub holds : Holds l frame places

pub here_same : {all low n : ℕ} {frame : List LocalVariable} {memory l h : Memory} {places : List Place} → all ≤ low → low < n
    → Ordered low n places → Agree n l h → Here all frame memory places l → Here all frame memory places h
here_same {all = all} {n = n} {frame = frame} {places = places} le lt o a x = record {
  agree = agree_then x.agree (agree_fewer (omega (arith, le, lt)) a);
  holds = holds_same frame places le o (outer_from all n a) x.holds;
}

abbrev with_argument : Option ℕ → ℤ → List Argument → ℕ → Given
with_argument array word others rest =
    record { arguments = record { word = word; array = array } ∷ others; turns = rest }

array_below : (all : ℕ) (names : Names) → NameItems all names → (e : Expression) → BelowIf all (array_of names e)
array_below all names items (Named x) = items.below x
array_below all names items e = tt

-- one more argument
more_comes : (all n count : ℕ) (l : Memory) (list : List Passed) (p : Passed) (word : ℤ) (r : Option Given) (q : Option State)
    → GivenComes all n count l list r q → ((h : Memory) → Agree n l h → value h p.term ≡ word) → BelowIf all p.array
    → GivenComes all n count l (p ∷ list)
    (for_given r (λ others rest. Some (with_argument p.array word others rest))) q
more_comes all n count l list p word None None NoneComes ready below = NoneComes
more_comes all n count l list p word None (Some s) e ready below = elim e [ ]
more_comes all n count l list p word (Some g) None e ready below = elim e [ ]
more_comes all n count l list p word (Some g) (Some s) (OneComes same a good) ready below =
    OneComes same a
    (λ h b. (ready h (agree_then a (agree_fewer (omega arith) b)), refl, below, good h b))

-- the word of a call that leaves the module's variables as they are
call_value : (all r : ℕ) (memory l : Memory) → Agree all memory l → (q : Option Called) (p : Option State)
    → ((c : Called) → q ≡ Some c → Agree all memory c.memory) → CallComes all r l q p
    → ValueComes r 1 l (flat.Scalar r) (for_call q (λ word changed rest. worth word rest)) p
call_value all r memory l here None None kept NoCall = NoneComes
call_value all r memory l here None (Some s) kept e = elim e [ ]
call_value all r memory l here (Some c) None kept e = elim e [ ]
call_value all r memory l here (Some c) (Some s) kept (OneCall same agree outer is) =
    OneComes same (record { same = λ k lt. ⊎_elim (inside k) (λ more. outer.same k more lt) (cases_lt k all) })
    (λ h a. ap first_word (sym (a.same r (omega arith)) ∙ is))
  where
    inside : (k : ℕ) → k < all → l k ≡ s.memory k
    inside k lt = sym (here.same k lt) ∙ (kept c refl).same k lt ∙ agree.same k lt

module _ (all low : ℕ) (sizes : ℕ → ℕ) (calls : Calls) (inlines : Inlines) (names : Names) (pure : List ℕ → Bool)
    (items : NameItems all names) (follow : CallsFollow all calls inlines) (are_pure : ArePure all calls pure)
    (le : all ≤ low) where
  mutual
    pub expression_comes : (frame : List LocalVariable) (memory : Memory) (places : List Place) (e : Expression) → FineExpression pure e → (n : ℕ) → low < n → Ordered low n places
        → (l : Memory) (turns : ℕ) → Here all frame memory places l
        → ValueComes n (length (lowered sizes inlines names places e n).before) l
        (lowered sizes inlines names places e n).term (valued sizes calls names frame memory e turns)
        (run (bind n (lowered sizes inlines names places e n).before) l turns)
    expression_comes frame memory places (Number z) fine n lt o l turns here = OneComes refl (agree_same n l) (λ h a. refl)
    expression_comes frame memory places (Named x) fine n lt o l turns here =
        OneComes refl (agree_same n l)
        (λ h a. let there = here_same le lt o (agree_fewer (omega arith) a) here in
        read_same names frame places items there.agree there.holds x)
    expression_comes frame memory places (LengthOf x) fine n lt o l turns here = OneComes refl (agree_same n l) (λ h a. refl)
    expression_comes frame memory places (Element x i) fine n lt o l turns here =
        let g = lowered sizes inlines names places i n in
        worth_comes n (length g.before) l g.term (element_term (names x) g.term) (word_at (words_named memory (names x)))
        (valued sizes calls names frame memory i turns) (run (bind n g.before) l turns)
        (expression_comes frame memory places i fine n lt o l turns here)
        (λ h word a is. element_same (names x) (items.below x) (here_same le lt o a here).agree g.term word is)
    expression_comes frame memory places (Operation operator a b) fine n lt o l turns here =
        let f = lowered sizes inlines names places a n in
        let k = n + length f.before in
        let g = lowered sizes inlines names places b k in
        value_then n l turns f.term (λ (v : Valued). v.turns)
        (λ v h. value h (flat.Operation operator f.term g.term) ≡ v.word) f.before g.before
        (λ v left. for_value (valued sizes calls names frame memory b left) (λ w rest. worth (result operator v w) rest))
        (valued sizes calls names frame memory a turns)
        (expression_comes frame memory places a fine.0 n lt o l turns here)
        (λ v s left agree ready.
        worth_comes k (length g.before) s g.term (flat.Operation operator f.term g.term) (result operator v)
        (valued sizes calls names frame memory b left) (run (bind k g.before) s left)
        (expression_comes frame memory places b fine.1 k (omega (arith, lt)) (ordered_more low places (omega arith) o) s left
        (here_same le lt o agree here))
        (λ h w also is. ap (λ z. result operator z (value h g.term)) (ready h also) ∙ ap (result operator v) is))
    expression_comes frame memory places (Select c a b) fine n lt o l turns here =
        let f = lowered sizes inlines names places c n in
        let k = n + length f.before in
        let x = lowered sizes inlines names places a k in
        let m = k + length x.before in
        let y = lowered sizes inlines names places b m in
        let term = flat.Select f.term x.term y.term in
        value_then n l turns f.term (λ (v : Valued). v.turns) (λ v h. value h term ≡ v.word) f.before
        (x.before ++ y.before)
        (λ t left. for_value (valued sizes calls names frame memory a left)
        (λ v rest. for_value (valued sizes calls names frame memory b rest)
        (λ w end. worth (if is_true t then v else w) end)))
        (valued sizes calls names frame memory c turns)
        (expression_comes frame memory places c fine.0 n lt o l turns here)
        (λ t s left agree ready.
        let there = here_same le lt o agree here in
        let order = ordered_more low places (omega arith) o in
        let less : low < k = omega (arith, lt) in
        value_then k s left x.term (λ (v : Valued). v.turns) (λ v h. value h term ≡ v.word) x.before y.before
        (λ v rest. for_value (valued sizes calls names frame memory b rest)
        (λ w end. worth (if is_true t then v else w) end))
        (valued sizes calls names frame memory a left)
        (expression_comes frame memory places a fine.1 k less order s left there)
        (λ v z rest also set.
        worth_comes m (length y.before) z y.term term (λ w. if is_true t then v else w)
        (valued sizes calls names frame memory b rest) (run (bind m y.before) z rest)
        (expression_comes frame memory places b fine.2 m (omega (arith, lt)) (ordered_more low places (omega arith) o) z rest
        (here_same le less order also there))
        (λ h w more is.
        ap (λ q. if is_true q then value h x.term else value h y.term)
        (ready h (agree_then also (agree_fewer (omega arith) more)))
        ∙ ap (λ q. if is_true t then q else value h y.term) (set h more)
        ∙ ap (λ q. if is_true t then v else q) is)))
    expression_comes frame memory places (Call f es) fine n lt o l turns here =
        let g = passed sizes inlines names places es n in
        let r = n + length g.before in
        let b = inlines f g.list r in
        then_comes n l turns (λ (x : Given). x.turns) (λ x h. AreGiven all x.arguments g.list h) (λ (v : Valued). v.turns)
        (λ v h. value h (flat.Scalar r) ≡ v.word) g.before (b ∷ [])
        (λ q. for_given q
        (λ arguments left. for_call (calls f arguments memory left) (λ word changed rest. worth word rest)))
        (given sizes calls names frame memory es turns)
        (given_comes frame memory places es fine.1 n lt o l turns here) refl
        (λ x s same agree good.
        subst (λ left. ValueComes r 1 s.memory (flat.Scalar r)
        (for_call (calls f x.arguments memory left) (λ word changed rest. worth word rest))
        (run (bind r (b ∷ [])) s.memory s.turns)) (sym same)
        (subst (λ q. ValueComes r 1 s.memory (flat.Scalar r)
        (for_call (calls f x.arguments memory s.turns) (λ word changed rest. worth word rest)) q)
        (sym (then_skip (run b.body (with_scalar s.memory r (value s.memory b.first)) s.turns)))
        (call_value all r memory s.memory (here_same le lt o agree here).agree
        (calls f x.arguments memory s.turns) _
        (λ c is. are_pure.keeps f x.arguments memory s.turns c fine.0 is)
        (follow.follows f x.arguments g.list r memory s.memory s.turns (omega (arith, le, lt))
        (here_same le lt o agree here).agree good))))

    pub given_comes : (frame : List LocalVariable) (memory : Memory) (places : List Place) (es : Expressions) → FineExpressions pure es → (n : ℕ) → low < n → Ordered low n places
        → (l : Memory) (turns : ℕ) → Here all frame memory places l
        → GivenComes all n (length (passed sizes inlines names places es n).before) l
        (passed sizes inlines names places es n).list (given sizes calls names frame memory es turns)
        (run (bind n (passed sizes inlines names places es n).before) l turns)
    given_comes frame memory places NoMore fine n lt o l turns here = OneComes refl (agree_same n l) (λ h a. tt)
    given_comes frame memory places (More e es) fine n lt o l turns here =
        let f = lowered sizes inlines names places e n in
        let k = n + length f.before in
        let g = passed sizes inlines names places es k in
        value_then n l turns f.term (λ (x : Given). x.turns)
        (λ x h. AreGiven all x.arguments (record { term = f.term; array = array_of names e } ∷ g.list) h) f.before g.before
        (λ word left. for_given (given sizes calls names frame memory es left)
        (λ others rest. Some (with_argument (array_of names e) word others rest)))
        (valued sizes calls names frame memory e turns)
        (expression_comes frame memory places e fine.0 n lt o l turns here)
        (λ word s left agree ready.
        more_comes all k (length g.before) s g.list (record { term = f.term; array = array_of names e }) word
        (given sizes calls names frame memory es left) (run (bind k g.before) s left)
        (given_comes frame memory places es fine.1 k (omega (arith, lt)) (ordered_more low places (omega arith) o) s left
        (here_same le lt o agree here)) ready (array_below all names items e))
