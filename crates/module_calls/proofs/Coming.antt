-- The relation between the evaluation of an expression and its bindings. Both run out of iterations, or both end with the
-- same number of iterations left; then the variables with numbers below n are unchanged, and the term has the value.
use Rattle.std.proofs.Common.{◌≡◌, ℕ, ◌+◌, ◌≤◌, Bool, true, ℤ, List, [], ◌∷◌, ◌++◌, length, Option, Some, None, refl, sym, subst, arith}
use Rattle.std.specs.Option.{option_and_then}
use Rattle.std.proofs.lemmas.List.{length-append}
use Rattle.module_tree.specs.Memory.{Memory}
use Rattle.module_tree.specs.Values.{Valued, worth, for_value, Argument, Given, Called, Calls}
use Rattle.flat_tree.specs.Trees.{Term}
use Rattle.flat_tree.specs.Meaning.{State, value, with_scalar, onward, run}
use Rattle.flat_tree.specs.Keeps.{Agree}
use Rattle.flat_tree.proofs.Agreeing.{agree_then, agree_fewer}
use Rattle.module_calls.specs.Inlining.{Binding, Passed, Inlines, bind}
use Rattle.module_calls.proofs.Bindings.{bind_more}
use Rattle.module_calls.proofs.Places.{BelowIf, Outer}

pub data Comes {X : Type 0} (n count : ℕ) (l : Memory) (turns_of : X → ℕ) (Good : X → Memory → Type 0)
    : Option X → Option State → Type 0 where
  NoneComes : Comes n count l turns_of Good None None
  OneComes : {x : X} {s : State} → turns_of x ≡ s.turns → Agree n l s.memory
      → ((h : Memory) → Agree (n + count) s.memory h → Good x h) → Comes n count l turns_of Good (Some x) (Some s)

abbrev pub ValueComes : ℕ → ℕ → Memory → Term → Option Valued → Option State → Type 0
ValueComes n count l term = Comes n count l (λ (v : Valued). v.turns) (λ v h. value h term ≡ v.word)

-- arguments have the words and the arrays that are passed; the arrays are items
abbrev pub AreGiven : ℕ → List Argument → List Passed → Memory → Type 0
AreGiven all [] [] h = Unit {0}
AreGiven all (a ∷ others) (p ∷ list) h =
    (value h p.term ≡ a.word) × (a.array ≡ p.array) × BelowIf all p.array × AreGiven all others list h
AreGiven all _ _ h = ⊥

abbrev pub GivenComes : ℕ → ℕ → ℕ → Memory → List Passed → Option Given → Option State → Type 0
GivenComes all n count l list = Comes n count l (λ (g : Given). g.turns) (λ g h. AreGiven all g.arguments list h)

-- The relation between a call and the statements that replace it: the module's variables are the same, the result's
-- variable has the word, and the other variables below it are unchanged.
pub data CallComes (all r : ℕ) (l : Memory) : Option Called → Option State → Type 0 where
  NoCall : CallComes all r l None None
  OneCall : {c : Called} {s : State} → c.turns ≡ s.turns → Agree all c.memory s.memory → Outer all r l s.memory
      → s.memory r ≡ c.word ∷ [] → CallComes all r l (Some c) (Some s)

pub record CallsFollow (all : ℕ) (calls : Calls) (inlines : Inlines) : Type 0 where
  pub follows : (f : List ℕ) (arguments : List Argument) (list : List Passed) (r : ℕ) (memory l : Memory) (turns : ℕ)
      → all ≤ r → Agree all memory l → ((h : Memory) → Agree r l h → AreGiven all arguments list h)
      → CallComes all r l (calls f arguments memory turns)
      (run (inlines f list r).body (with_scalar l r (value l (inlines f list r).first)) turns)

-- calls of some functions leave the module's variables as they are
pub record ArePure (all : ℕ) (calls : Calls) (pure : List ℕ → Bool) : Type 0 where
  pub keeps : (f : List ℕ) (arguments : List Argument) (memory : Memory) (turns : ℕ) (c : Called) → pure f ≡ true
      → calls f arguments memory turns ≡ Some c → Agree all memory c.memory

-- bindings, and then others
pub then_comes : {X Y : Type 0} (n : ℕ) (l : Memory) (turns : ℕ) (t : X → ℕ) (Good : X → Memory → Type 0) (u : Y → ℕ)
    (Fine : Y → Memory → Type 0) (bs cs : List Binding) (next : Option X → Option Y) (r : Option X)
    → Comes n (length bs) l t Good r (run (bind n bs) l turns) → next None ≡ None
    → ((x : X) (s : State) → t x ≡ s.turns → Agree n l s.memory
    → ((h : Memory) → Agree (n + length bs) s.memory h → Good x h)
    → Comes (n + length bs) (length cs) s.memory u Fine (next (Some x)) (run (bind (n + length bs) cs) s.memory s.turns))
    → Comes n (length (bs ++ cs)) l u Fine (next r) (run (bind n (bs ++ cs)) l turns)
then_comes {X} {Y} n l turns t Good u Fine bs cs next r first none second =
    subst (λ q. Comes n (length (bs ++ cs)) l u Fine (next r) q) (sym (bind_more n bs cs l turns))
    (by r (run (bind n bs) l turns) first)
  where
    wider : (m : Memory) → Agree n l m → (y : Option Y) (q : Option State)
        → Comes (n + length bs) (length cs) m u Fine y q → Comes n (length (bs ++ cs)) l u Fine y q
    wider m a None None NoneComes = NoneComes
    wider m a None (Some s) e = elim e [ ]
    wider m a (Some x) None e = elim e [ ]
    wider m a (Some x) (Some s) (OneComes same b good) =
        let long = length-append bs cs in
        OneComes same (agree_then a (agree_fewer (omega arith) b))
        (λ h c. good h (agree_fewer (omega (arith, long)) c))

    by : (r : Option X) (q : Option State) → Comes n (length bs) l t Good r q
        → Comes n (length (bs ++ cs)) l u Fine (next r) (option_and_then (onward (run (bind (n + length bs) cs))) q)
    by None None NoneComes = subst (λ y. Comes n (length (bs ++ cs)) l u Fine y None) (sym none) NoneComes
    by None (Some s) e = elim e [ ]
    by (Some x) None e = elim e [ ]
    by (Some x) (Some s) (OneComes same a good) = wider s.memory a _ _ (second x s same a good)

-- a value, and then what is made from it
pub value_then : {Y : Type 0} (n : ℕ) (l : Memory) (turns : ℕ) (term : Term) (u : Y → ℕ) (Fine : Y → Memory → Type 0)
    (bs cs : List Binding) (next : ℤ → ℕ → Option Y) (r : Option Valued)
    → ValueComes n (length bs) l term r (run (bind n bs) l turns)
    → ((word : ℤ) (s : Memory) (left : ℕ) → Agree n l s
    → ((h : Memory) → Agree (n + length bs) s h → value h term ≡ word)
    → Comes (n + length bs) (length cs) s u Fine (next word left) (run (bind (n + length bs) cs) s left))
    → Comes n (length (bs ++ cs)) l u Fine (for_value r next) (run (bind n (bs ++ cs)) l turns)
value_then n l turns term u Fine bs cs next r first second =
    then_comes n l turns (λ (v : Valued). v.turns) (λ v h. value h term ≡ v.word) u Fine bs cs (λ r. for_value r next) r
    first refl
    (λ x s same a good.
    subst (λ left. Comes (n + length bs) (length cs) s.memory u Fine (next x.word left)
    (run (bind (n + length bs) cs) s.memory s.turns)) (sym same)
    (second x.word s.memory s.turns a good))

-- a value that is made from another
pub worth_comes : (n count : ℕ) (l : Memory) (term other : Term) (f : ℤ → ℤ) (r : Option Valued) (q : Option State)
    → ValueComes n count l term r q
    → ((h : Memory) (word : ℤ) → Agree n l h → value h term ≡ word → value h other ≡ f word)
    → ValueComes n count l other (for_value r (λ word left. worth (f word) left)) q
worth_comes n count l term other f None None NoneComes made = NoneComes
worth_comes n count l term other f None (Some s) e made = elim e [ ]
worth_comes n count l term other f (Some v) None e made = elim e [ ]
worth_comes n count l term other f (Some v) (Some s) (OneComes same a good) made =
    OneComes same a (λ h b. made h v.word (agree_then a (agree_fewer (omega arith) b)) (good h b))
