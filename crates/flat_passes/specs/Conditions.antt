-- Conditions become choices: `if (p && q) A else B` becomes `if (p) { if (q) A else B } else B`, and `||` and `? :` alike,
-- if the statements that are then written twice are light. `x = p && q;` becomes a choice between `x = 1;` and `x = 0;`,
-- and `x = c ? a : b;` a choice between `x = a;` and `x = b;`. (A pass of this project's compiler of modules.)
use Rattle.std.specs.Prelude.{ℕ, pos, ◌&&◌, Bool, if◌then◌else◌}
use Rattle.module_tree.specs.Operators.{Compare, Conjunction, Disjunction}
use Rattle.flat_tree.specs.Trees.{Term, Number, Operation, Select, Statement, Skip, Seq, Set, Put, If, While, Local}
use Rattle.flat_tree.specs.Keeps.{reads}

module _ (light : Statement → Bool) where
  abbrev pub choice : Term → Statement → Statement → Statement
  choice (Operation Conjunction p q) a b =
      if light b then choice p (choice q a b) b else If (Operation Conjunction p q) a b
  choice (Operation Disjunction p q) a b =
      if light a then choice p a (choice q a b) else If (Operation Disjunction p q) a b
  choice (Select c x y) a b =
      if light a && light b then choice c (choice x a b) (choice y a b) else If (Select c x y) a b
  choice c a b = If c a b

  -- 1 if a condition is true, otherwise 0
  abbrev pub one_or_zero : ℕ → Term → Statement
  one_or_zero k c = choice c (Set k (Number (pos 1))) (Set k (Number (pos 0)))

  abbrev pub assigned : ℕ → Term → Statement
  assigned k (Select c a b) = choice c (assigned k a) (assigned k b)
  assigned k (Operation (Compare cmp) a b) = one_or_zero k (Operation (Compare cmp) a b)
  assigned k (Operation Conjunction a b) = one_or_zero k (Operation Conjunction a b)
  assigned k (Operation Disjunction a b) = one_or_zero k (Operation Disjunction a b)
  assigned k e = Set k e

  -- A new variable whose value is a condition begins as 0, unless the condition reads a variable of that number.
  abbrev pub declared : ℕ → Term → Statement → Statement
  declared k e body = if reads k e then Local k e body else Local k (Number (pos 0)) (Seq (assigned k e) body)

  abbrev pub with_local : ℕ → Term → Statement → Statement
  with_local k (Select c a b) body = declared k (Select c a b) body
  with_local k (Operation (Compare cmp) a b) body = declared k (Operation (Compare cmp) a b) body
  with_local k (Operation Conjunction a b) body = declared k (Operation Conjunction a b) body
  with_local k (Operation Disjunction a b) body = declared k (Operation Disjunction a b) body
  with_local k e body = Local k e body

  abbrev pub conditions : Statement → Statement
  conditions Skip = Skip
  conditions (Seq a b) = Seq (conditions a) (conditions b)
  conditions (Set k e) = assigned k e
  conditions (Put k i e) = Put k i e
  conditions (If c a b) = choice c (conditions a) (conditions b)
  conditions (While c a) = While c (conditions a)
  conditions (Local k e a) = with_local k e (conditions a)
