-- The flat statements that statements become end as the statements do.
use Rattle.std.proofs.Common.{◌≡◌, ℕ, ◌+◌, ◌<◌, ◌≤◌, Bool, true, false, ◌||◌, if◌then◌else◌, ℤ, List, [], ◌∷◌, ◌++◌, length, drop, Option, Some, None, refl, sym, ap, ◌∙◌, subst, arith}
use Rattle.std.specs.Option.{option_and_then, option_map}
use Rattle.module_tree.specs.Operators.{is_true}
use Rattle.module_tree.specs.Memory.{Memory, with_scalar, with_word, with_words}
use Rattle.module_tree.specs.Trees.{Expression, Call, Statement, Declare, SetVariable, SetElement, Choice, Loop, Return, Invoke, Nested, Block, Nothing, Then}
use Rattle.module_tree.specs.Values.{LocalVariable, Names, words_named, with_named, frame_with, memory_with, for_value, for_given, for_call, Calls, valued, given, right_side}
use Rattle.module_tree.specs.Meaning.{Ended, ended, for_end, unless_returned, in_turn, forgotten, run_of, run_of_block}
use Rattle.flat_tree.specs.Trees.{Term}
use Rattle.flat_tree.specs.Meaning.{State, value, holds, at, onward, restored, run}
use Rattle.flat_tree.specs.Keeps.{Agree}
use Rattle.flat_tree.proofs.Agreeing.{agree_same, agree_then, agree_new, read_here, read_other}
use Rattle.flat_tree.proofs.Falling.{one_falls}
use Rattle.module_calls.specs.Inlining.{Place, Inlines, bind, set_named, put_named, lowered, passed, statement, block}
use Rattle.module_calls.specs.Fine.{FineExpressions, FineRightSide, FineStatement, FineBlock, IsLast, returns, returns_in}
use Rattle.module_calls.proofs.Bindings.{bind_more, in_two}
use Rattle.module_calls.proofs.Places.{Ordered, Holds, NameItems, holds_same, holds_above, Assigned, assigned, put_assigned}
use Rattle.module_calls.proofs.Coming.{CallsFollow, ArePure}
use Rattle.module_calls.proofs.Expressions.{Here, here_same, ordered_more, expression_comes, given_comes}
use Rattle.module_calls.proofs.Looping.{loop_ends}
use Rattle.module_calls.proofs.Ending.{state, result_words, Ends, NoEnd, OneEnd, RightSideComes, ends_later, bound_ends, for_right_side, for_word, plain_right_side, given_right_side, left_false, right_false, skip_ends, then_ends}
use Rattle.flat_tree.specs.Trees as flat

-- what an assignment leaves
assigned_ends : {all low n : ℕ} {frame : List LocalVariable} {memory : Memory} {places : List Place} {l : Memory} {may : Bool} (t : flat.Statement) (turns : ℕ)
    → all ≤ low → Assigned all low n frame memory places l t
    → Ends all low places l may (ended frame memory turns None) (run t l turns)
assigned_ends {all = all} {low = low} {frame = frame} {memory = memory} {places = places} {l = l} {may = may} t turns le d =
    subst (λ q. Ends all low places l may (ended frame memory turns None) q) (sym (d.done turns))
    (OneEnd refl d.agree d.holds (record { same = λ k more lt. d.outer k more (omega (arith, lt)) })
    (sym (d.outer low le (omega arith))) (λ e. refl))

-- the last statement of a block
last_ends : {all low : ℕ} {places : List Place} {l : Memory} {may : Bool} (x : Option Ended) (q : Option State)
    → Ends all low places l may x q
    → Ends all low places l (may || false) (for_end x (λ s. ended s.frame s.memory s.turns None))
    (option_and_then (onward (run flat.Skip)) q)
last_ends None None NoEnd = NoEnd
last_ends None (Some s) e = elim e [ ]
last_ends (Some x) None e = elim e [ ]
last_ends {all = all} {low = low} {places = places} {l = l} {may = may} (Some x) (Some s) (OneEnd turns a h outer result never) =
    by x.returned result never
  where
    by : (o : Option ℤ) → s.memory low ≡ result_words o (l low) → (may ≡ false → o ≡ None)
        → Ends all low places l (may || false)
        (unless_returned (λ s. ended s.frame s.memory s.turns None) x.state o)
        (Some s)
    by None result never = OneEnd turns a h outer result (λ e. refl)
    by (Some word) result never = OneEnd turns a h outer result (λ e. never (left_false may false e))

-- one of two
may_left : {all low : ℕ} {places : List Place} {l : Memory} {may : Bool} (also : Bool) (x : Option Ended) (q : Option State)
    → Ends all low places l may x q → Ends all low places l (may || also) x q
may_left also None None NoEnd = NoEnd
may_left also None (Some s) e = elim e [ ]
may_left also (Some x) None e = elim e [ ]
may_left {may = may} also (Some x) (Some s) (OneEnd turns a h outer result never) =
    OneEnd turns a h outer result (λ e. never (left_false may also e))

may_right : {all low : ℕ} {places : List Place} {l : Memory} {may : Bool} (also : Bool) (x : Option Ended) (q : Option State)
    → Ends all low places l may x q → Ends all low places l (also || may) x q
may_right also None None NoEnd = NoEnd
may_right also None (Some s) e = elim e [ ]
may_right also (Some x) None e = elim e [ ]
may_right {may = may} also (Some x) (Some s) (OneEnd turns a h outer result never) =
    OneEnd turns a h outer result (λ e. never (right_false also may e))

either_ends : {all low : ℕ} {places : List Place} {l : Memory} {may also : Bool} (b c : Bool) (x y : Option Ended)
    (q p : Option State) → b ≡ c → Ends all low places l may x q → Ends all low places l also y p
    → Ends all low places l (may || also) (if b then x else y) (if c then q else p)
either_ends {all = all} {low = low} {places = places} {l = l} {may = may} {also = also} b c x y q p e f g =
    subst (λ z. Ends all low places l (may || also) (if b then x else y) (if z then q else p)) e (by b)
  where
    by : (d : Bool) → Ends all low places l (may || also) (if d then x else y) (if d then q else p)
    by true = may_left also x q f
    by false = may_right may y p g

-- a return
return_ends : {all low : ℕ} {frame : List LocalVariable} {memory s : Memory} {places : List Place} (n : ℕ) (term : Term) (word : ℤ) (left : ℕ)
    → all ≤ low → Ordered low n places → Agree all memory s → Holds s frame places → value s term ≡ word
    → Ends all low places s true (ended frame memory left (Some word)) (run (flat.Set low term) s left)
return_ends {all = all} {low = low} {frame = frame} {memory = memory} {s = s} {places = places} n term word left le o a h is =
    subst (λ z. Ends all low places s true (ended frame memory left (Some word)) (Some (at (with_scalar s low z) left))) (sym is)
    (OneEnd refl (agree_then a (agree_new s low (word ∷ []) le))
    (holds_above frame places le o
    (λ k more lt. sym (read_other s low k (word ∷ []) (λ same. omega (arith, more, same)))) h)
    (record { same = λ k more lt. sym (read_other s low k (word ∷ []) (λ same. omega (arith, lt, same))) })
    (read_here s low (word ∷ [])) (λ e. absurd (let f : true ≡ false = e in cc)))

-- without the latest local variable
forget_ends : {all low k : ℕ} {places : List Place} {l : Memory} {may : Bool} (p : Place) (w : List ℤ) (x : Option Ended)
    (q : Option State) → all ≤ low → low < k → Ordered low k places → Ends all low (p ∷ places) l may x q
    → Ends all low places l may (forgotten x) (option_map (restored k w) q)
forget_ends p w None None le lt o NoEnd = NoEnd
forget_ends p w None (Some s) le lt o e = elim e [ ]
forget_ends p w (Some x) None le lt o e = elim e [ ]
forget_ends {all = all} {low = low} {k = k} {places = places} {l = l} {may = may} p w (Some x) (Some s) le lt o (OneEnd turns a h outer result never) =
    by x.state.frame h
  where
    other : (j : ℕ) → j < k → s.memory j ≡ with_words s.memory k w j
    other j less = sym (read_other s.memory k j w (λ same. omega (arith, less, same)))

    by : (frame : List LocalVariable) → Holds s.memory frame (p ∷ places)
        → Ends all low places l may (ended (drop 1 frame) x.state.memory x.state.turns x.returned)
        (Some (restored k w s))
    by [] h = absurd h
    by (own ∷ frame) h =
        OneEnd turns (agree_then a (agree_new s.memory k w (omega (arith, le, lt))))
        (holds_above frame places le o (λ j more less. other j less) h.2)
        (record { same = λ j more less. outer.same j more less ∙ other j (omega (arith, less, lt)) })
        (sym (other low lt) ∙ result) never

module _ (all low : ℕ) (sizes : ℕ → ℕ) (calls : Calls) (inlines : Inlines) (names : Names) (pure : List ℕ → Bool)
    (items : NameItems all names) (follow : CallsFollow all calls inlines) (are_pure : ArePure all calls pure)
    (le : all ≤ low) where
  -- a call as a right side
  call_right_side : (frame : List LocalVariable) (memory : Memory) (places : List Place) (f : List ℕ) (es : _) → FineExpressions pure es
      → (n : ℕ) → low < n → Ordered low n places → (l : Memory) (turns : ℕ) → Here all frame memory places l
      → RightSideComes all n (length (lowered sizes inlines names places (Call f es) n).before) l
      (lowered sizes inlines names places (Call f es) n).term
      (right_side sizes calls names (state frame memory turns) (Call f es))
      (run (bind n (lowered sizes inlines names places (Call f es) n).before) l turns)
  call_right_side frame memory places f es fine n lt o l turns here =
      let g = passed sizes inlines names places es n in
      let k = n + length g.before in
      let b = inlines f g.list k in
      subst (λ q. RightSideComes all n (length (g.before ++ b ∷ [])) l (flat.Scalar k)
      (for_given (given sizes calls names frame memory es turns) (λ arguments left. calls f arguments memory left)) q)
      (sym (bind_more n g.before (b ∷ []) l turns))
      (given_right_side g.before b g.list (λ arguments left. calls f arguments memory left)
      (given sizes calls names frame memory es turns) (run (bind n g.before) l turns)
      (given_comes all low sizes calls inlines names pure items follow are_pure le frame memory places es fine n lt o l
      turns here)
      (λ arguments s left agree good.
      follow.follows f arguments g.list k memory s left (omega (arith, le, lt)) (here_same le lt o agree here).agree good))

  pub right_side_comes : (frame : List LocalVariable) (memory : Memory) (places : List Place) (e : Expression) → FineRightSide pure e → (n : ℕ)
      → low < n → Ordered low n places → (l : Memory) (turns : ℕ) → Here all frame memory places l
      → RightSideComes all n (length (lowered sizes inlines names places e n).before) l
      (lowered sizes inlines names places e n).term (right_side sizes calls names (state frame memory turns) e)
      (run (bind n (lowered sizes inlines names places e n).before) l turns)
  right_side_comes frame memory places (Call f es) fine n lt o l turns here = call_right_side frame memory places f es fine n lt o l turns here
  right_side_comes frame memory places e fine n lt o l turns here =
      plain_right_side memory _ _ (omega (arith, le, lt)) here.agree
      (expression_comes all low sizes calls inlines names pure items follow are_pure le frame memory places e fine n lt o l turns here)

  -- what follows a statement of a block
  rest_ends : (places : List Place) (first : Statement) (rest : Block) (n : ℕ) (l : Memory) (turns : ℕ) → IsLast pure first rest
      → (x : Option Ended)
      → Ends all low places l (returns first) x (run (statement sizes inlines names low places first n) l turns)
      → ((frame : List LocalVariable) (memory s : Memory) (left : ℕ) → Here all frame memory places s
      → Ends all low places s (returns_in rest) (run_of_block sizes calls names rest (state frame memory left))
      (run (block sizes inlines names low places rest n) s left))
      → Ends all low places l (returns first || returns_in rest) (for_end x (run_of_block sizes calls names rest))
      (option_and_then (onward (run (block sizes inlines names low places rest n)))
      (run (statement sizes inlines names low places first n) l turns))
  rest_ends places first Nothing n l turns last x ends go = last_ends x _ ends
  rest_ends places first (Then second rest) n l turns last x ends go =
      then_ends x _ (run_of_block sizes calls names (Then second rest))
      (run (block sizes inlines names low places (Then second rest) n)) turns last ends
      (λ s is. one_falls (statement sizes inlines names low places first n) l turns s is)
      (λ frame memory s left few agree holds. go frame memory s left (record { agree = agree; holds = holds }))

  mutual
    pub statement_ends : (places : List Place) (s : Statement) → FineStatement pure s → (n : ℕ) → low < n
        → Ordered low n places → (frame : List LocalVariable) (memory l : Memory) (turns : ℕ) → Here all frame memory places l
        → Ends all low places l (returns s) (run_of sizes calls names s (state frame memory turns))
        (run (statement sizes inlines names low places s n) l turns)
    statement_ends places (Declare label x e) fine n lt o frame memory l turns here =
        let h = lowered sizes inlines names places e n in
        bound_ends _ h.before flat.Skip turns le lt o
        (for_right_side (right_side sizes calls names (state frame memory turns) e) (run (bind n h.before) l turns)
        (λ word memory left. ended frame memory left None) flat.Skip le lt
        (right_side_comes frame memory places e fine n lt o l turns here)
        (λ word memory s left agree outer good.
        skip_ends left agree (holds_same frame places le o outer here.holds)))
    statement_ends places (SetVariable x e) fine n lt o frame memory l turns here =
        let h = lowered sizes inlines names places e n in
        bound_ends _ h.before (set_named names places x h.term) turns le lt o
        (for_right_side (right_side sizes calls names (state frame memory turns) e) (run (bind n h.before) l turns)
        (λ word memory left. ended (frame_with frame x word) (memory_with names frame memory x word) left None)
        (set_named names places x h.term) le lt
        (right_side_comes frame memory places e fine n lt o l turns here)
        (λ word memory s left agree outer good.
        assigned_ends (set_named names places x h.term) left le
        (assigned names frame places items le o agree (holds_same frame places le o outer here.holds) x h.term word
        (good s (agree_same _ s)))))
    statement_ends places (SetElement x i e) fine n lt o frame memory l turns here =
        let h = lowered sizes inlines names places e n in
        let k = n + length h.before in
        let g = lowered sizes inlines names places i k in
        let put = put_named (names x) g.term h.term in
        let order : Ordered low k places = ordered_more low places (omega arith) o in
        let next = λ (word : ℤ) (memory : Memory) (left : ℕ).
        for_value (valued sizes calls names frame memory i left)
        (λ index rest.
        ended frame (with_named memory (names x) (with_word (words_named memory (names x)) index word)) rest None) in
        bound_ends _ (h.before ++ g.before) put turns le lt o
        (subst (λ q. Ends all low places l false (for_call (right_side sizes calls names (state frame memory turns) e) next)
        (option_and_then (onward (run put)) q)) (sym (bind_more n h.before g.before l turns))
        (subst (λ q. Ends all low places l false (for_call (right_side sizes calls names (state frame memory turns) e) next) q)
        (sym (in_two (run (bind k g.before)) (run put) (run (bind n h.before) l turns)))
        (for_right_side (right_side sizes calls names (state frame memory turns) e) (run (bind n h.before) l turns)
        next (flat.Seq (bind k g.before) put) le lt
        (right_side_comes frame memory places e fine.0 n lt o l turns here)
        (λ word memory s left agree outer good.
        let there : Here all frame memory places s = record {
          agree = agree;
          holds = holds_same frame places le o outer here.holds;
        } in
        for_word g.term (valued sizes calls names frame memory i left) (run (bind k g.before) s left)
        (λ index rest.
        ended frame (with_named memory (names x) (with_word (words_named memory (names x)) index word)) rest None)
        put (omega (arith, lt))
        (expression_comes all low sizes calls inlines names pure items follow are_pure le frame memory places i fine.1 k
        (omega (arith, lt)) order s left there)
        (λ index z rest also ready.
        let last = here_same le (let less : low < k = omega (arith, lt) in less) order also there in
        assigned_ends put rest le
        (put_assigned frame places le o last.holds g.term h.term index word (names x) (items.below x) last.agree
        (ready z (agree_same _ z)) (good z also)))))))
    statement_ends places (Choice t a b) fine n lt o frame memory l turns here =
        let h = lowered sizes inlines names places t n in
        let x = block sizes inlines names low places a n in
        let y = block sizes inlines names low places b n in
        bound_ends _ h.before (flat.If h.term x y) turns le lt o
        (for_word h.term (valued sizes calls names frame memory t turns) (run (bind n h.before) l turns)
        (λ word left. if is_true word then run_of_block sizes calls names a (state frame memory left)
        else run_of_block sizes calls names b (state frame memory left))
        (flat.If h.term x y) lt
        (expression_comes all low sizes calls inlines names pure items follow are_pure le frame memory places t fine.0 n lt o
        l turns here)
        (λ word s left agree ready.
        let there = here_same le lt o agree here in
        either_ends (is_true word) (holds h.term s) _ _ _ _ (ap is_true (sym (ready s (agree_same _ s))))
        (block_ends places a fine.1 n lt o frame memory s left there)
        (block_ends places b fine.2 n lt o frame memory s left there)))
    statement_ends places (Loop t body step) fine n lt o frame memory l turns here =
        let h = lowered sizes inlines names places t n in
        let x = block sizes inlines names low places body n in
        let y = block sizes inlines names low places step n in
        bound_ends _ h.before (flat.While h.term (flat.Seq (flat.Seq x y) (bind n h.before))) turns le lt o
        (loop_ends all low n places (λ now. valued sizes calls names now.frame now.memory t now.turns) h.before h.term
        (in_turn (run_of_block sizes calls names body) (run_of_block sizes calls names step)) (flat.Seq x y) le lt o
        (λ frame memory l turns here.
        expression_comes all low sizes calls inlines names pure items follow are_pure le frame memory places t fine.0 n lt o
        l turns here)
        (λ frame memory s left here.
        subst (λ b. Ends all low places s b
        (in_turn (run_of_block sizes calls names body) (run_of_block sizes calls names step) (state frame memory left))
        (run (flat.Seq x y) s left)) (ap (λ b. b || returns_in step) fine.3 ∙ fine.4)
        (then_ends (run_of_block sizes calls names body (state frame memory left)) (run x s left)
        (run_of_block sizes calls names step) (run y) left fine.3
        (block_ends places body fine.1 n lt o frame memory s left here)
        (λ z is. one_falls x s left z is)
        (λ frame memory z now few agree holds.
        block_ends places step fine.2 n lt o frame memory z now (record { agree = agree; holds = holds }))))
        frame memory l turns here)
    statement_ends places (Return e) fine n lt o frame memory l turns here =
        let h = lowered sizes inlines names places e n in
        bound_ends _ h.before (flat.Set low h.term) turns le lt o
        (for_right_side (right_side sizes calls names (state frame memory turns) e) (run (bind n h.before) l turns)
        (λ word memory left. ended frame memory left (Some word)) (flat.Set low h.term) le lt
        (right_side_comes frame memory places e fine n lt o l turns here)
        (λ word memory s left agree outer good.
        return_ends n h.term word left le o agree (holds_same frame places le o outer here.holds)
        (good s (agree_same _ s))))
    statement_ends places (Invoke f es) fine n lt o frame memory l turns here =
        let h = lowered sizes inlines names places (Call f es) n in
        bound_ends _ h.before flat.Skip turns le lt o
        (for_right_side (right_side sizes calls names (state frame memory turns) (Call f es)) (run (bind n h.before) l turns)
        (λ word memory left. ended frame memory left None) flat.Skip le lt
        (right_side_comes frame memory places (Call f es) fine n lt o l turns here)
        (λ word memory s left agree outer good.
        skip_ends left agree (holds_same frame places le o outer here.holds)))
    statement_ends places (Nested body) fine n lt o frame memory l turns here =
        block_ends places body fine n lt o frame memory l turns here

    pub block_ends : (places : List Place) (b : Block) → FineBlock pure b → (n : ℕ) → low < n
        → Ordered low n places → (frame : List LocalVariable) (memory l : Memory) (turns : ℕ) → Here all frame memory places l
        → Ends all low places l (returns_in b) (run_of_block sizes calls names b (state frame memory turns))
        (run (block sizes inlines names low places b n) l turns)
    block_ends places Nothing fine n lt o frame memory l turns here = skip_ends turns here.agree here.holds
    block_ends places (Then (Declare label x e) rest) fine n lt o frame memory l turns here =
        let h = lowered sizes inlines names places e n in
        let k = n + length h.before in
        let p : Place = record { name = x; number = k } in
        let inner = block sizes inlines names low (p ∷ places) rest (k + 1) in
        let less : low < k = omega (arith, lt) in
        let order : Ordered low k places = ordered_more low places (omega arith) o in
        bound_ends _ h.before (flat.Local k h.term inner) turns le lt o
        (for_right_side (right_side sizes calls names (state frame memory turns) e) (run (bind n h.before) l turns)
        (λ word memory left. forgotten (run_of_block sizes calls names rest
        (state (record { name = x; word = word } ∷ frame) memory left)))
        (flat.Local k h.term inner) le lt
        (right_side_comes frame memory places e fine.0 n lt o l turns here)
        (λ word memory s left agree outer good.
        let z = with_scalar s k word in
        let same : (j : ℕ) → j < k → s j ≡ z j =
        λ j below. sym (read_other s k j (word ∷ []) (λ e. omega (arith, below, e))) in
        let own = holds_same frame places le o outer here.holds in
        subst (λ v. Ends all low places s (returns_in rest)
        (forgotten (run_of_block sizes calls names rest (state (record { name = x; word = word } ∷ frame) memory left)))
        (option_map (restored k (s k)) (run inner (with_scalar s k v) left))) (sym (good s (agree_same _ s)))
        (forget_ends p (s k) _ _ le less order
        (ends_later _ _ (record { same = λ j more below. same j (omega (arith, below, less)) }) (same low less)
        (block_ends (p ∷ places) rest fine.1 (k + 1) (omega (arith, lt)) (less, omega arith, order)
        (record { name = x; word = word } ∷ frame) memory z left
        (record {
          agree = agree_then agree (agree_new s k (word ∷ []) (omega (arith, le, less)));
          holds = (refl, read_here s k (word ∷ []), holds_above frame places le order (λ j more below. same j below) own);
        }))))))
    block_ends places (Then first rest) fine n lt o frame memory l turns here =
        rest_ends places first rest n l turns fine.2 (run_of sizes calls names first (state frame memory turns))
        (statement_ends places first fine.0 n lt o frame memory l turns here)
        (λ frame memory s left there. block_ends places rest fine.1 n lt o frame memory s left there)
