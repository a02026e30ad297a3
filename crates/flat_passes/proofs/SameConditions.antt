-- Statements do exactly the same after their conditions became choices.
use Rattle.std.proofs.Common.{◌≡◌, ℕ, pos, ℤ, Bool, true, false, ◌&&◌, ◌||◌, if◌then◌else◌, [], ◌∷◌, Option, Some, refl, sym, ap, ◌∙◌}
use Rattle.std.specs.Option.{option_and_then, option_map}
use Rattle.std.proofs.Math.Path.{fun_ext}
use Rattle.gr_word.specs.Words.{compared}
use Rattle.module_tree.specs.Operators.{Compare, Conjunction, Disjunction, is_true, bit}
use Rattle.flat_tree.specs.Trees.{Term, Number, Operation, Select, Statement, Skip, Seq, Set, Put, If, While, Local}
use Rattle.flat_tree.specs.Meaning.{Memory, State, Execution, value, holds, at, with_scalar, in_turn, loop, restored, run}
use Rattle.flat_tree.specs.Keeps.{Below, Keeps, reads}
use Rattle.flat_tree.proofs.Keeping.{keeps_same, keeps_equal}
use Rattle.flat_tree.proofs.Writing.{written_twice, value_unread}
use Rattle.flat_passes.specs.Conditions.{choice, one_or_zero, assigned, declared, with_local, conditions}

-- what `if` and `Local` do with what is in them
abbrev chosen : Term → Execution → Execution → Execution
chosen c one other m turns = if holds c m then one m turns else other m turns

abbrev framed : ℕ → Term → Execution → Execution
framed k e body m turns = option_map (restored k (m k)) (body (with_scalar m k (value m e)) turns)

true_bit : (b : Bool) → is_true (bit b) ≡ b
true_bit true = refl
true_bit false = refl

both_chosen : (p q : Bool) (x y : Option State)
    → (if p then (if q then x else y) else y) ≡ (if is_true (bit (p && q)) then x else y)
both_chosen true true x y = refl
both_chosen true false x y = refl
both_chosen false q x y = refl

either_chosen : (p q : Bool) (x y : Option State)
    → (if p then x else if q then x else y) ≡ (if is_true (bit (p || q)) then x else y)
either_chosen true q x y = refl
either_chosen false true x y = refl
either_chosen false false x y = refl

select_chosen : (c : Bool) (v w : ℤ) (x y : Option State)
    → (if c then (if is_true v then x else y) else if is_true w then x else y)
    ≡ (if is_true (if c then v else w) then x else y)
select_chosen true v w x y = refl
select_chosen false v w x y = refl

if_if : (c : Bool) (v w : ℤ) (m : Memory) (k turns : ℕ)
    → (if c then Some (at (with_scalar m k v) turns) else Some (at (with_scalar m k w) turns))
    ≡ Some (at (with_scalar m k (if c then v else w)) turns)
if_if true v w m k turns = refl
if_if false v w m k turns = refl

module _ (light : Statement → Bool) where
  -- a choice is the `if` that it is made from
  pub choice_same : (c : Term) (a b : Statement) (m : Memory) (turns : ℕ)
      → run (choice light c a b) m turns ≡ run (If c a b) m turns
  choice_same (Operation Conjunction p q) a b m turns =
      by (light b) (choice_same p (choice light q a b) b m turns) (choice_same q a b m turns)
    where
      by : (x : Bool)
          → run (choice light p (choice light q a b) b) m turns ≡ run (If p (choice light q a b) b) m turns
          → run (choice light q a b) m turns ≡ run (If q a b) m turns
          → run (if x then choice light p (choice light q a b) b else If (Operation Conjunction p q) a b) m turns
          ≡ run (If (Operation Conjunction p q) a b) m turns
      by true outer inner =
          outer ∙ ap (λ (r : Option State). if holds p m then r else run b m turns) inner
          ∙ both_chosen (holds p m) (holds q m) (run a m turns) (run b m turns)
      by false outer inner = refl
  choice_same (Operation Disjunction p q) a b m turns =
      by (light a) (choice_same p a (choice light q a b) m turns) (choice_same q a b m turns)
    where
      by : (x : Bool)
          → run (choice light p a (choice light q a b)) m turns ≡ run (If p a (choice light q a b)) m turns
          → run (choice light q a b) m turns ≡ run (If q a b) m turns
          → run (if x then choice light p a (choice light q a b) else If (Operation Disjunction p q) a b) m turns
          ≡ run (If (Operation Disjunction p q) a b) m turns
      by true outer inner =
          outer ∙ ap (λ (r : Option State). if holds p m then run a m turns else r) inner
          ∙ either_chosen (holds p m) (holds q m) (run a m turns) (run b m turns)
      by false outer inner = refl
  choice_same (Select c x y) a b m turns =
      by (light a && light b) (choice_same c (choice light x a b) (choice light y a b) m turns)
      (choice_same x a b m turns) (choice_same y a b m turns)
    where
      by : (z : Bool)
          → run (choice light c (choice light x a b) (choice light y a b)) m turns
          ≡ run (If c (choice light x a b) (choice light y a b)) m turns
          → run (choice light x a b) m turns ≡ run (If x a b) m turns
          → run (choice light y a b) m turns ≡ run (If y a b) m turns
          → run (if z then choice light c (choice light x a b) (choice light y a b) else If (Select c x y) a b) m turns
          ≡ run (If (Select c x y) a b) m turns
      by true outer first second =
          outer ∙ ap (λ (r : Option State). if holds c m then r else run (choice light y a b) m turns) first
          ∙ ap (λ (r : Option State). if holds c m then run (If x a b) m turns else r) second
          ∙ select_chosen (holds c m) (value m x) (value m y) (run a m turns) (run b m turns)
      by false outer first second = refl
  choice_same c a b m turns = refl

  -- 1 or 0 is what a condition is worth
  pub one_or_zero_same : (k : ℕ) (c : Term) (b : Bool) (m : Memory) (turns : ℕ) → value m c ≡ bit b
      → run (one_or_zero light k c) m turns ≡ run (Set k c) m turns
  one_or_zero_same k c b m turns is =
      choice_same c (Set k (Number (pos 1))) (Set k (Number (pos 0))) m turns
      ∙ if_if (holds c m) (pos 1) (pos 0) m k turns
      ∙ ap (λ v. Some (at (with_scalar m k v) turns))
      (ap (λ z. bit (is_true z)) is ∙ ap bit (true_bit b) ∙ sym is)

  pub assigned_same : (k : ℕ) (e : Term) (m : Memory) (turns : ℕ)
      → run (assigned light k e) m turns ≡ run (Set k e) m turns
  assigned_same k (Select c a b) m turns =
      choice_same c (assigned light k a) (assigned light k b) m turns
      ∙ ap (λ (r : Option State). if holds c m then r else run (assigned light k b) m turns) (assigned_same k a m turns)
      ∙ ap (λ (r : Option State). if holds c m then run (Set k a) m turns else r) (assigned_same k b m turns)
      ∙ if_if (holds c m) (value m a) (value m b) m k turns
  assigned_same k (Operation (Compare cmp) a b) m turns =
      one_or_zero_same k (Operation (Compare cmp) a b) (compared cmp (value m a) (value m b)) m turns refl
  assigned_same k (Operation Conjunction a b) m turns =
      one_or_zero_same k (Operation Conjunction a b) (holds a m && holds b m) m turns refl
  assigned_same k (Operation Disjunction a b) m turns =
      one_or_zero_same k (Operation Disjunction a b) (holds a m || holds b m) m turns refl
  assigned_same k e m turns = refl

  pub declared_same : (k : ℕ) (e : Term) (a : Statement) (m : Memory) (turns : ℕ)
      → run (declared light k e a) m turns ≡ run (Local k e a) m turns
  declared_same k e a m turns = by (reads k e) refl
    where
      by : (x : Bool) → reads k e ≡ x
          → run (if x then Local k e a else Local k (Number (pos 0)) (Seq (assigned light k e) a)) m turns
          ≡ run (Local k e a) m turns
      by true is = refl
      by false is =
          ap (λ (r : Option State). option_map (restored k (m k)) (option_and_then (λ s. run a s.memory s.turns) r))
          (assigned_same k e (with_scalar m k (pos 0)) turns
          ∙ ap (λ v. Some (at (with_scalar (with_scalar m k (pos 0)) k v) turns))
          (value_unread m k (pos 0 ∷ []) e is)
          ∙ ap (λ l. Some (at l turns)) (written_twice m k (pos 0 ∷ []) (value m e ∷ [])))

  pub local_same : (k : ℕ) (e : Term) (a : Statement) (m : Memory) (turns : ℕ)
      → run (with_local light k e a) m turns ≡ run (Local k e a) m turns
  local_same k (Select c x y) a m turns = declared_same k (Select c x y) a m turns
  local_same k (Operation (Compare cmp) x y) a m turns = declared_same k (Operation (Compare cmp) x y) a m turns
  local_same k (Operation Conjunction x y) a m turns = declared_same k (Operation Conjunction x y) a m turns
  local_same k (Operation Disjunction x y) a m turns = declared_same k (Operation Disjunction x y) a m turns
  local_same k e a m turns = refl

  -- statements do exactly what they did
  pub conditions_same : (s : Statement) → run (conditions light s) ≡ run s
  conditions_same Skip = refl
  conditions_same (Seq a b) =
      ap (λ (r : Execution). in_turn r (run (conditions light b))) (conditions_same a)
      ∙ ap (in_turn (run a)) (conditions_same b)
  conditions_same (Set k e) = fun_ext (λ m. fun_ext (λ turns. assigned_same k e m turns))
  conditions_same (Put k i e) = refl
  conditions_same (If c a b) =
      fun_ext (λ m. fun_ext (λ turns. choice_same c (conditions light a) (conditions light b) m turns))
      ∙ ap (λ (r : Execution). chosen c r (run (conditions light b))) (conditions_same a)
      ∙ ap (chosen c (run a)) (conditions_same b)
  conditions_same (While c a) = ap (loop (holds c)) (conditions_same a)
  conditions_same (Local k e a) =
      fun_ext (λ m. fun_ext (λ turns. local_same k e (conditions light a) m turns))
      ∙ ap (framed k e) (conditions_same a)

  pub conditions_keep : (n : ℕ) (s : Statement) → Below n s → Keeps n s (conditions light s)
  conditions_keep n s below =
      keeps_equal (keeps_same n s below) (λ m turns. ap (λ (r : Execution). r m turns) (sym (conditions_same s)))
