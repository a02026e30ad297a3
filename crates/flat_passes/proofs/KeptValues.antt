-- Statements with new variables keep what the statements without them do.
use Rattle.std.proofs.Common.{ℕ, zero, suc, ◌+◌, ◌<◌, Bool, List, ◌++◌, length, Option, Some, None, sym, subst, arith}
use Rattle.std.specs.Option.{option_and_then, option_map}
use Rattle.flat_tree.specs.Trees.{Term, Statement, Skip, Seq, Set, Put, If, While, Local}
use Rattle.flat_tree.specs.Meaning.{Memory, State, Execution, value, holds, onward, turn_taken, looped, with_scalar, with_element, restored, run}
use Rattle.flat_tree.specs.Keeps.{Agree, Alike, BothSpent, BothLeft, Keeps, TermBelow, Below}
use Rattle.flat_tree.proofs.Agreeing.{agree_same, agree_back, agree_then, agree_fewer, agree_set, either_alike, left_alike, restored_alike}
use Rattle.flat_tree.proofs.Keeping.{keeps_skip, keeps_seq, element_agree}
use Rattle.flat_passes.specs.Values.{Hoisted, value_of, test_of, with_locals, set_again, values}
use Rattle.flat_passes.proofs.Temporaries.{temporaries, before_temporaries, split, set_again_run, locals_alike}
use Rattle.flat_passes.proofs.Hoisting.{RightTest, value_right, condition_right, still}

-- the memory of the second program, once the new variables are set, agrees on the first program's variables
ready_agree : {n : ℕ} (es : List Term) {m start l : Memory} → Agree n start m
    → Agree (n + length es) (temporaries n es start) l → Agree n m l
ready_agree {n} es {start = start} a b =
    agree_then (agree_back a)
    (agree_then (before_temporaries n es start (omega arith)) (agree_fewer (omega arith) b))

module _ (needs_name : Term → Bool) where
  -- under new variables
  under : {n : ℕ} {s : Statement} (es : List Term) (t : Statement)
      → ((m start : Memory) (turns : ℕ) → Agree n start m → Alike n (run s m turns) (run t (temporaries n es start) turns))
      → Keeps n s (with_locals needs_name n es t)
  under {n} es t f = record {
    alike = λ m l turns a. locals_alike needs_name n es t l turns (omega arith) (f m l turns (agree_back a));
  }

  pub set_keeps : (n k : ℕ) (e : Term) → TermBelow n e → Keeps n (Set k e) (values needs_name n (Set k e))
  set_keeps n k e below =
      let h = value_of needs_name n e in
      let r = value_right needs_name n e (omega arith) below in
      under h.before (Set k h.term)
      (λ m start turns a.
      let l = temporaries n h.before start in
      let same = agree_same (n + length h.before) l in
      left_alike turns
      (subst (λ z. Agree n (with_scalar m k (value m e)) (with_scalar l k z)) (sym (r.is m start l a same))
      (agree_set k _ (ready_agree h.before a same))))

  pub put_keeps : (n k : ℕ) (i e : Term) → k < n → TermBelow n i → TermBelow n e
      → Keeps n (Put k i e) (values needs_name n (Put k i e))
  put_keeps n k i e lt index below =
      let h = value_of needs_name n e in
      let j = n + length h.before in
      let g = value_of needs_name j i in
      let r = value_right needs_name n e (omega arith) below in
      let q = value_right needs_name j i (omega arith) index in
      under (h.before ++ g.before) (Put k g.term h.term)
      (λ m start turns a.
      let all = h.before ++ g.before in
      let l = temporaries n all start in
      let same = agree_same (n + length all) l in
      let s = split n h.before g.before start l same in
      left_alike turns
      (subst (λ z. Agree n (with_element m k (value m i) (value m e)) (with_element l k (value l g.term) z))
      (sym (r.is m start l a s.first))
      (subst (λ z. Agree n (with_element m k (value m i) (value m e)) (with_element l k z (value m e)))
      (sym (q.is m (temporaries n h.before start) l (still n h.before m start (omega arith) a) s.second))
      (element_agree k (value m i) (value m e) lt (ready_agree all a same)))))

  pub if_keeps : (n : ℕ) (c : Term) (a b x y : Statement) → TermBelow n c → Keeps n a x → Keeps n b y
      → Keeps n (If c a b) (with_locals needs_name n (test_of needs_name n c).before (If (test_of needs_name n c).term x y))
  if_keeps n c a b x y below p q =
      let h = test_of needs_name n c in
      let r = condition_right needs_name n c (omega arith) below in
      under h.before (If h.term x y)
      (λ m start turns f.
      let l = temporaries n h.before start in
      let same = agree_same (n + length h.before) l in
      let agree = ready_agree h.before f same in
      either_alike (holds c m) (holds h.term l) _ _ _ _ (sym (r.is m start l f same)) (p.alike m l turns agree)
      (q.alike m l turns agree))

  pub local_keeps : (n k : ℕ) (e : Term) (a x : Statement) → k < n → TermBelow n e → Keeps n a x
      → Keeps n (Local k e a) (with_locals needs_name n (value_of needs_name n e).before (Local k (value_of needs_name n e).term x))
  local_keeps n k e a x lt below p =
      let h = value_of needs_name n e in
      let r = value_right needs_name n e (omega arith) below in
      under h.before (Local k h.term x)
      (λ m start turns f.
      let l = temporaries n h.before start in
      let same = agree_same (n + length h.before) l in
      let agree = ready_agree h.before f same in
      subst (λ ws. Alike n (option_map (restored k (m k)) (run a (with_scalar m k (value m e)) turns))
      (option_map (restored k ws) (run x (with_scalar l k (value l h.term)) turns))) (agree.same k lt)
      (restored_alike k (m k)
      (p.alike (with_scalar m k (value m e)) (with_scalar l k (value l h.term)) turns
      (subst (λ z. Agree n (with_scalar m k (value m e)) (with_scalar l k z)) (sym (r.is m start l f same))
      (agree_set k _ agree)))))

  -- a loop, whose new variables are set before it and at the end of its body
  module _ (n : ℕ) (c : Term) (h : Hoisted) (r : RightTest n n (holds c) h) (a x : Statement) (p : Keeps n a x) where
    abbrev again : Execution
    again = run (Seq x (set_again needs_name n h.before))

    after_body : (rest more : Execution)
        → ((m start l : Memory) (turns : ℕ) → Agree n start m → Agree (n + length h.before) (temporaries n h.before start) l
        → Alike n (rest m turns) (more l turns))
        → (u v : Option State) → Alike n u v
        → Alike n (option_and_then (onward rest) u)
        (option_and_then (onward more) (option_and_then (onward (run (set_again needs_name n h.before))) v))
    after_body rest more go None None BothSpent = BothSpent
    after_body rest more go None (Some t) e = elim e [ ]
    after_body rest more go (Some s) None e = elim e [ ]
    after_body rest more go (Some s) (Some t) (BothLeft same agree) =
        let l = temporaries n h.before t.memory in
        subst (λ w. Alike n (onward rest s) (option_and_then (onward more) w))
        (sym (set_again_run needs_name n h.before t.memory t.turns))
        (subst (λ k. Alike n (onward rest s) (more l k)) same
        (go s.memory t.memory l s.turns (agree_back agree) (agree_same _ l)))

    loops_alike : (most : ℕ) (m start l : Memory) (turns : ℕ) → Agree n start m
        → Agree (n + length h.before) (temporaries n h.before start) l
        → Alike n (looped (holds c) (run a) most m turns) (looped (holds h.term) again most l turns)
    unfolding looped
    loops_alike zero m start l turns f b =
        either_alike (holds c m) (holds h.term l) _ _ _ _ (sym (r.is m start l f b)) BothSpent
        (left_alike turns (ready_agree h.before f b))
    loops_alike (suc most) m start l turns f b =
        either_alike (holds c m) (holds h.term l) _ _ _ _ (sym (r.is m start l f b))
        (taken turns (loops_alike most))
        (left_alike turns (ready_agree h.before f b))
      where
        taken : (t : ℕ)
            → ((m start l : Memory) (turns : ℕ) → Agree n start m
            → Agree (n + length h.before) (temporaries n h.before start) l
            → Alike n (looped (holds c) (run a) most m turns) (looped (holds h.term) again most l turns))
            → Alike n (turn_taken (run a) (looped (holds c) (run a) most) m t)
            (turn_taken again (looped (holds h.term) again most) l t)
        taken zero go = BothSpent
        taken (suc t) go =
            after_body (looped (holds c) (run a) most) (looped (holds h.term) again most) go
            (run a m t) (run x l t) (p.alike m l t (ready_agree h.before f b))

  pub while_keeps : (n : ℕ) (c : Term) (a x : Statement) → TermBelow n c → Keeps n a x
      → Keeps n (While c a)
      (with_locals needs_name n (test_of needs_name n c).before
      (While (test_of needs_name n c).term (Seq x (set_again needs_name n (test_of needs_name n c).before))))
  while_keeps n c a x below p =
      let h = test_of needs_name n c in
      let r = condition_right needs_name n c (omega arith) below in
      under h.before (While h.term (Seq x (set_again needs_name n h.before)))
      (λ m start turns f.
      loops_alike n c h r a x p turns m start (temporaries n h.before start) turns f (agree_same _ _))

  -- the pass
  pub values_keep : (n : ℕ) (s : Statement) → Below n s → Keeps n s (values needs_name n s)
  values_keep n Skip below = keeps_skip n
  values_keep n (Seq a b) below = keeps_seq (values_keep n a below.0) (values_keep n b below.1)
  values_keep n (Set k e) below = set_keeps n k e below.1
  values_keep n (Put k i e) below = put_keeps n k i e below.0 below.1 below.2
  values_keep n (If c a b) below = if_keeps n c a b _ _ below.0 (values_keep n a below.1) (values_keep n b below.2)
  values_keep n (While c a) below = while_keeps n c a _ below.0 (values_keep n a below.1)
  values_keep n (Local k e a) below = local_keeps n k e a _ below.0 below.1 (values_keep n a below.2)
