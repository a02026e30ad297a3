-- The relation between the end of a module's statements and the end of the flat statements that they become.
use Rattle.std.proofs.Common.{◌≡◌, ℕ, ◌+◌, ◌<◌, ◌≤◌, Bool, true, false, ◌||◌, ℤ, List, [], ◌∷◌, ◌++◌, length, Option, Some, None, refl, sym, ap, ◌∙◌, subst, arith}
use Rattle.std.specs.Option.{option_and_then}
use Rattle.std.proofs.lemmas.List.{length-append}
use Rattle.module_tree.specs.Memory.{Memory, first_word}
use Rattle.module_tree.specs.Values.{LocalVariable, Valued, for_value, Argument, Given, for_given, Called, for_call}
use Rattle.module_tree.specs.Meaning.{Ended, Execution, ended, for_end, unless_returned}
use Rattle.flat_tree.specs.Trees.{Term}
use Rattle.flat_tree.specs.Meaning.{State, value, with_scalar, at, onward, run}
use Rattle.flat_tree.specs.Keeps.{Agree, Alike, BothSpent, BothLeft}
use Rattle.flat_tree.proofs.Agreeing.{agree_then, agree_fewer}
use Rattle.module_calls.specs.Inlining.{Place, Binding, Passed, bind, with_bindings}
use Rattle.module_calls.proofs.Bindings.{then_skip, bindings_alike}
use Rattle.module_calls.proofs.Places.{Ordered, Holds, Outer, outer_from, outer_then, outer_fewer, holds_same}
use Rattle.module_calls.proofs.Coming.{NoneComes, OneComes, ValueComes, AreGiven, GivenComes, CallComes, NoCall, OneCall}
use Rattle.flat_tree.specs.Trees as flat
use Rattle.flat_tree.specs.Meaning as flat_meaning
use Rattle.module_tree.specs.Values as tree

abbrev pub state : List LocalVariable → Memory → ℕ → tree.State
state frame memory turns = record { frame = frame; memory = memory; turns = turns }

-- the words of the result's variable
abbrev pub result_words : Option ℤ → List ℤ → List ℤ
result_words None before = before
result_words (Some word) before = word ∷ []

-- Both are spent, or both end: with as many iterations left, with the same words of the module's variables and of the
-- own ones, and with the result in its variable. Statements without a return don't return.
pub data Ends (all low : ℕ) (places : List Place) (l : Memory) (may : Bool) : Option Ended → Option State → Type 0 where
  NoEnd : Ends all low places l may None None
  OneEnd : {e : Ended} {s : State} → e.state.turns ≡ s.turns → Agree all e.state.memory s.memory
      → Holds s.memory e.state.frame places → Outer all low l s.memory
      → s.memory low ≡ result_words e.returned (l low) → (may ≡ false → e.returned ≡ None)
      → Ends all low places l may (Some e) (Some s)

-- a right side
pub data RightSideComes (all n count : ℕ) (l : Memory) (term : Term) : Option Called → Option State → Type 0 where
  NoRightSide : RightSideComes all n count l term None None
  OneRightSide : {c : Called} {s : State} → c.turns ≡ s.turns → Agree all c.memory s.memory → Outer all n l s.memory
      → ((h : Memory) → Agree (n + count) s.memory h → value h term ≡ c.word)
      → RightSideComes all n count l term (Some c) (Some s)

-- later statements begin where the first ended
pub ends_later : {all low : ℕ} {places : List Place} {l m : Memory} {may : Bool} (x : Option Ended) (q : Option State)
    → Outer all low l m → l low ≡ m low → Ends all low places m may x q → Ends all low places l may x q
ends_later None None o same NoEnd = NoEnd
ends_later None (Some s) o same e = elim e [ ]
ends_later (Some x) None o same e = elim e [ ]
ends_later {l = l} {m = m} (Some x) (Some s) o same (OneEnd turns a h outer result never) =
    OneEnd turns a h (outer_then o outer) (result ∙ ap (result_words x.returned) (sym same)) never

-- variables from number n on don't matter
pub ends_alike : {all low n : ℕ} {places : List Place} {l : Memory} {may : Bool} (x : Option Ended) (q p : Option State)
    → all ≤ low → low < n → Ordered low n places → Alike n q p → Ends all low places l may x q → Ends all low places l may x p
ends_alike None None None le lt o BothSpent NoEnd = NoEnd
ends_alike None None (Some t) le lt o a e = elim a [ ]
ends_alike None (Some s) p le lt o a e = elim e [ ]
ends_alike (Some x) None p le lt o a e = elim e [ ]
ends_alike (Some x) (Some s) None le lt o a e = elim a [ ]
ends_alike {all = all} {low = low} {n = n} {places = places} (Some x) (Some s) (Some t) le lt o (BothLeft also b) (OneEnd turns a h outer result never) =
    OneEnd (turns ∙ also) (agree_then a (agree_fewer (omega (arith, le, lt)) b))
    (holds_same x.state.frame places le o (outer_from all n b) h)
    (outer_then outer (outer_from all low (agree_fewer (omega (arith, lt)) b)))
    (sym (b.same low lt) ∙ result) never

-- a statement under bindings
pub bound_ends : {all low n : ℕ} {places : List Place} {l : Memory} {may : Bool} (x : Option Ended) (bs : List Binding)
    (t : flat.Statement) (turns : ℕ) → all ≤ low → low < n → Ordered low n places
    → Ends all low places l may x (option_and_then (onward (run t)) (run (bind n bs) l turns))
    → Ends all low places l may x (run (with_bindings n bs t) l turns)
bound_ends {n = n} {l = l} x bs t turns le lt o e = ends_alike x _ _ le lt o (bindings_alike n bs t l turns) e

-- what follows a right side
pub for_right_side : {all low n count : ℕ} {places : List Place} {l : Memory} {term : Term} {may : Bool} (c : Option Called)
    (q : Option State) (next : ℤ → Memory → ℕ → Option Ended) (t : flat.Statement) → all ≤ low → low < n
    → RightSideComes all n count l term c q
    → ((word : ℤ) (memory s : Memory) (left : ℕ) → Agree all memory s → Outer all n l s
    → ((h : Memory) → Agree (n + count) s h → value h term ≡ word)
    → Ends all low places s may (next word memory left) (run t s left))
    → Ends all low places l may (for_call c next) (option_and_then (onward (run t)) q)
for_right_side None None next t le lt NoRightSide go = NoEnd
for_right_side None (Some s) next t le lt w go = elim w [ ]
for_right_side (Some c) None next t le lt w go = elim w [ ]
for_right_side {all = all} {low = low} {places = places} {l = l} {may = may} (Some c) (Some s) next t le lt (OneRightSide same a o good) go =
    subst (λ left. Ends all low places l may (next c.word c.memory left) (run t s.memory s.turns)) (sym same)
    (ends_later (next c.word c.memory s.turns) (run t s.memory s.turns) (outer_fewer (omega (arith, lt)) o)
    (o.same low le lt) (go c.word c.memory s.memory s.turns a o good))

-- what follows a value
pub for_word : {all low n count : ℕ} {places : List Place} {l : Memory} {may : Bool} (term : Term) (v : Option Valued)
    (q : Option State) (next : ℤ → ℕ → Option Ended) (t : flat.Statement) → low < n
    → ValueComes n count l term v q
    → ((word : ℤ) (s : Memory) (left : ℕ) → Agree n l s
    → ((h : Memory) → Agree (n + count) s h → value h term ≡ word)
    → Ends all low places s may (next word left) (run t s left))
    → Ends all low places l may (for_value v next) (option_and_then (onward (run t)) q)
for_word term None None next t lt NoneComes go = NoEnd
for_word term None (Some s) next t lt w go = elim w [ ]
for_word term (Some v) None next t lt w go = elim w [ ]
for_word {all = all} {low = low} {n = n} {places = places} {l = l} {may = may} term (Some v) (Some s) next t lt (OneComes same a good) go =
    subst (λ left. Ends all low places l may (next v.word left) (run t s.memory s.turns)) (sym same)
    (ends_later (next v.word s.turns) (run t s.memory s.turns) (outer_from all low (agree_fewer (omega (arith, lt)) a))
    (a.same low lt) (go v.word s.memory s.turns a good))

-- right sides
pub plain_right_side : {all n count : ℕ} {l : Memory} {term : Term} (memory : Memory) (v : Option Valued) (q : Option State) → all ≤ n
    → Agree all memory l → ValueComes n count l term v q
    → RightSideComes all n count l term
    (for_value v (λ word left. Some (record { word = word; memory = memory; turns = left }))) q
plain_right_side memory None None le a NoneComes = NoRightSide
plain_right_side memory None (Some s) le a e = elim e [ ]
plain_right_side memory (Some v) None le a e = elim e [ ]
plain_right_side {all = all} {n = n} memory (Some v) (Some s) le a (OneComes same b good) =
    OneRightSide same (agree_then a (agree_fewer le b)) (outer_from all n b) good

call_right_side : {all n k count : ℕ} {l s : Memory} (c : Option Called) (q : Option State) → n ≤ k → k < n + count → Agree n l s
    → CallComes all k s c q → RightSideComes all n count l (flat.Scalar k) c q
call_right_side None None le lt a NoCall = NoRightSide
call_right_side None (Some t) le lt a e = elim e [ ]
call_right_side (Some c) None le lt a e = elim e [ ]
call_right_side {all = all} {n = n} {k = k} (Some c) (Some t) le lt a (OneCall same also outer is) =
    OneRightSide same also (outer_then (outer_from all n a) (outer_fewer le outer))
    (λ h b. ap first_word (sym (b.same k lt) ∙ is))

-- a call after its arguments
pub given_right_side : {all n : ℕ} {l : Memory} (bs : List Binding) (b : Binding) (list : List Passed)
    (calls : List Argument → ℕ → Option Called) (x : Option Given) (q : Option State)
    → GivenComes all n (length bs) l list x q
    → ((arguments : List Argument) (s : Memory) (left : ℕ) → Agree n l s
    → ((h : Memory) → Agree (n + length bs) s h → AreGiven all arguments list h)
    → CallComes all (n + length bs) s (calls arguments left)
    (run b.body (with_scalar s (n + length bs) (value s b.first)) left))
    → RightSideComes all n (length (bs ++ b ∷ [])) l (flat.Scalar (n + length bs)) (for_given x calls)
    (option_and_then (onward (run (bind (n + length bs) (b ∷ [])))) q)
given_right_side bs b list calls None None NoneComes go = NoRightSide
given_right_side bs b list calls None (Some s) e go = elim e [ ]
given_right_side bs b list calls (Some x) None e go = elim e [ ]
given_right_side {all = all} {n = n} {l = l} bs b list calls (Some x) (Some s) (OneComes same a good) go =
    let k = n + length bs in
    let long = length-append bs (b ∷ []) in
    subst (λ left. RightSideComes all n (length (bs ++ b ∷ [])) l (flat.Scalar k) (calls x.arguments left)
    (run (bind k (b ∷ [])) s.memory s.turns)) (sym same)
    (call_right_side _ _ (omega arith) (omega (arith, long)) a
    (subst (λ q. CallComes all k s.memory (calls x.arguments s.turns) q)
    (sym (then_skip (run b.body (with_scalar s.memory k (value s.memory b.first)) s.turns)))
    (go x.arguments s.memory s.turns a good)))

pub left_false : (a b : Bool) → (a || b) ≡ false → a ≡ false
left_false true b e = e
left_false false b e = refl

pub right_false : (a b : Bool) → (a || b) ≡ false → b ≡ false
right_false true b e = absurd (cc)
right_false false b e = e

-- the state in which nothing more was done
pub skip_ends : {all low : ℕ} {frame : List LocalVariable} {memory : Memory} {places : List Place} {l : Memory} {may : Bool} (turns : ℕ)
    → Agree all memory l → Holds l frame places → Ends all low places l may (ended frame memory turns None) (Some (at l turns))
skip_ends turns a h = OneEnd refl a h (record { same = λ k more lt. refl }) refl (λ e. refl)

-- a statement that doesn't return, and what follows
pub then_ends : {all low : ℕ} {places : List Place} {l : Memory} {may also : Bool} (x : Option Ended) (q : Option State)
    (rest : Execution) (t : flat_meaning.Execution) (most : ℕ) → may ≡ false → Ends all low places l may x q
    → ((s : State) → q ≡ Some s → s.turns ≤ most)
    → ((frame : List LocalVariable) (memory s : Memory) (left : ℕ) → left ≤ most → Agree all memory s → Holds s frame places
    → Ends all low places s also (rest (state frame memory left)) (t s left))
    → Ends all low places l (may || also) (for_end x rest) (option_and_then (onward t) q)
then_ends None None rest t most never_may NoEnd lim go = NoEnd
then_ends None (Some s) rest t most never_may e lim go = elim e [ ]
then_ends (Some x) None rest t most never_may e lim go = elim e [ ]
then_ends {all = all} {low = low} {places = places} {l = l} {may = may} {also = also} (Some x) (Some s) rest t most
    never_may (OneEnd turns a h outer result never) lim go =
    by x.returned result (never never_may)
  where
    by : (o : Option ℤ) → s.memory low ≡ result_words o (l low) → o ≡ None
        → Ends all low places l (may || also) (unless_returned rest x.state o) (t s.memory s.turns)
    by (Some word) result never = absurd (let f : ◌≡◌ {A = Option ℤ} (Some word) None = never in cc)
    by None result never =
        subst (λ b. Ends all low places l (b || also) (rest x.state) (t s.memory s.turns)) (sym never_may)
        (subst (λ left. Ends all low places l also (rest (state x.state.frame x.state.memory left)) (t s.memory s.turns))
        (sym turns)
        (ends_later (rest (state x.state.frame x.state.memory s.turns)) (t s.memory s.turns) outer (sym result)
        (go x.state.frame x.state.memory s.memory s.turns (lim s refl) a h)))
