-- A flat loop, whose test is computed before it and at the end of its body, ends as the module's loop does.
use Rattle.std.proofs.Common.{◌≡◌, ℕ, zero, suc, ◌<◌, ◌≤◌, Bool, true, false, if◌then◌else◌, List, length, Option, Some, None, refl, sym, ap, ◌∙◌, subst, arith}
use Rattle.std.specs.Option.{option_and_then}
use Rattle.module_tree.specs.Operators.{is_true}
use Rattle.module_tree.specs.Memory.{Memory}
use Rattle.module_tree.specs.Values.{LocalVariable, Valued, for_value}
use Rattle.module_tree.specs.Meaning.{Execution, ended, for_end, in_turn, turn_taken, looped}
use Rattle.flat_tree.specs.Trees.{Term}
use Rattle.flat_tree.specs.Meaning.{State, holds, at, onward, run}
use Rattle.flat_tree.specs.Keeps.{Agree}
use Rattle.flat_tree.proofs.Agreeing.{agree_same, agree_fewer}
use Rattle.flat_tree.proofs.Falling.{one_falls}
use Rattle.module_calls.specs.Inlining.{Place, Binding, bind}
use Rattle.module_calls.proofs.Bindings.{in_two}
use Rattle.module_calls.proofs.Places.{Ordered, outer_from}
use Rattle.module_calls.proofs.Coming.{NoneComes, OneComes, ValueComes}
use Rattle.module_calls.proofs.Expressions.{Here, here_same}
use Rattle.module_calls.proofs.Ending.{state, Ends, NoEnd, OneEnd, ends_later, then_ends}
use Rattle.flat_tree.specs.Trees as flat
use Rattle.flat_tree.specs.Meaning as flat_meaning
use Rattle.module_tree.specs.Values as tree

-- the flat loop
flat_ends : (test : Memory → Bool) (body : flat_meaning.Execution) (most : ℕ) (m : Memory) (turns : ℕ) → test m ≡ false
    → flat_meaning.looped test body most m turns ≡ Some (at m turns)
unfolding flat_meaning.looped
flat_ends test body zero m turns e = ap (λ b. if b then None else Some (at m turns)) e
flat_ends test body (suc most) m turns e =
    ap (λ b. if b then flat_meaning.turn_taken body (flat_meaning.looped test body most) m turns else Some (at m turns)) e

flat_spent : (test : Memory → Bool) (body : flat_meaning.Execution) (most : ℕ) (m : Memory) → test m ≡ true
    → flat_meaning.looped test body most m 0 ≡ None
unfolding flat_meaning.looped
flat_spent test body zero m e = ap (λ b. if b then None else Some (at m 0)) e
flat_spent test body (suc most) m e = ap (λ b. if b then None else Some (at m 0)) e

flat_again : (test : Memory → Bool) (body : flat_meaning.Execution) (most : ℕ) (m : Memory) (turns : ℕ) → test m ≡ true
    → flat_meaning.looped test body (suc most) m (suc turns)
    ≡ flat_meaning.in_turn body (flat_meaning.looped test body most) m turns
unfolding flat_meaning.looped
flat_again test body most m turns e =
    ap (λ b. if b then flat_meaning.turn_taken body (flat_meaning.looped test body most) m (suc turns)
    else Some (at m (suc turns))) e

module _ (all low n : ℕ) (places : List Place) (test : tree.State → Option Valued) (bs : List Binding) (term : Term)
    (body : Execution) (inner : flat.Statement) (le : all ≤ low) (lt : low < n) (o : Ordered low n places)
    (tests : (frame : List LocalVariable) (memory l : Memory) (turns : ℕ) → Here all frame memory places l
    → ValueComes n (length bs) l term (test (state frame memory turns)) (run (bind n bs) l turns))
    (bodies : (frame : List LocalVariable) (memory s : Memory) (left : ℕ) → Here all frame memory places s
    → Ends all low places s false (body (state frame memory left)) (run inner s left)) where
  -- the body, and then the test
  abbrev again : flat_meaning.Execution
  again = run (flat.Seq inner (bind n bs))

  abbrev flat_loop : ℕ → flat_meaning.Execution
  flat_loop most = flat_meaning.looped (holds term) again most

  -- the module's loop from a state on, and the flat loop once its test is computed
  abbrev LoopsEnd : ℕ → ℕ → List LocalVariable → Memory → Memory → ℕ → Type 0
  LoopsEnd most other frame memory l turns =
      Ends all low places l false (looped test body most (state frame memory turns))
      (option_and_then (onward (flat_loop other)) (run (bind n bs) l turns))

  pub loops_end : (most other : ℕ) (frame : List LocalVariable) (memory l : Memory) (turns : ℕ) → turns ≤ most
      → ((s : State) → run (bind n bs) l turns ≡ Some s → s.turns ≤ other) → Here all frame memory places l
      → LoopsEnd most other frame memory l turns
  unfolding looped
  loops_end zero other frame memory l turns few lim here =
      by (test (state frame memory turns)) (run (bind n bs) l turns) (tests frame memory l turns here)
      (λ s is. one_falls (bind n bs) l turns s is)
    where
      decided : (s : State) → Agree n l s.memory → s.turns ≤ turns → (b : Bool) → holds term s.memory ≡ b → (left : ℕ)
          → left ≡ s.turns
          → Ends all low places l false (if b then None else ended frame memory left None)
          (flat_loop other s.memory s.turns)
      decided s a fewer true is left same =
          subst (λ q. Ends all low places l false None q)
          (sym (ap (flat_loop other s.memory) (let e : s.turns ≡ 0 = omega (arith, fewer, few) in e)
          ∙ flat_spent (holds term) again other s.memory is)) NoEnd
      decided s a fewer false is left same =
          let there = here_same le lt o a here in
          subst (λ q. Ends all low places l false (ended frame memory left None) q)
          (sym (flat_ends (holds term) again other s.memory s.turns is))
          (OneEnd same there.agree there.holds (outer_from all low (agree_fewer (omega (arith, lt)) a))
          (sym (a.same low lt)) (λ e. refl))

      by : (v : Option Valued) (q : Option State) → ValueComes n (length bs) l term v q
          → ((s : State) → q ≡ Some s → s.turns ≤ turns)
          → Ends all low places l false
          (for_value v (λ word left. if is_true word then None else ended frame memory left None))
          (option_and_then (onward (flat_loop other)) q)
      by None None NoneComes fewer = NoEnd
      by None (Some s) e fewer = elim e [ ]
      by (Some v) None e fewer = elim e [ ]
      by (Some v) (Some s) (OneComes same a good) fewer =
          decided s a (fewer s refl) (is_true v.word) (ap is_true (good s.memory (agree_same _ s.memory))) v.turns same
  loops_end (suc most) other frame memory l turns few lim here =
      by (test (state frame memory turns)) (run (bind n bs) l turns) (tests frame memory l turns here)
      (λ s is. one_falls (bind n bs) l turns s is) lim (loops_end most)
    where
      taken : (s : State) → Agree n l s.memory → s.turns ≤ turns → holds term s.memory ≡ true → (left other : ℕ)
          → left ≡ s.turns → left ≤ other
          → ((other : ℕ) (frame : List LocalVariable) (memory l : Memory) (turns : ℕ) → turns ≤ most
          → ((s : State) → run (bind n bs) l turns ≡ Some s → s.turns ≤ other) → Here all frame memory places l
          → LoopsEnd most other frame memory l turns)
          → Ends all low places l false (turn_taken body (looped test body most) frame memory left)
          (flat_loop other s.memory left)
      taken s a fewer is zero other same limit go =
          subst (λ q. Ends all low places l false None q) (sym (flat_spent (holds term) again other s.memory is)) NoEnd
      taken s a fewer is (suc left) zero same limit go = absurd (omega (arith, limit))
      taken s a fewer is (suc left) (suc other) same limit go =
          let there = here_same le lt o a here in
          subst (λ q. Ends all low places l false (for_end (body (state frame memory left)) (looped test body most)) q)
          (sym (flat_again (holds term) again other s.memory left is
          ∙ in_two (run (bind n bs)) (flat_loop other) (run inner s.memory left)))
          (ends_later (for_end (body (state frame memory left)) (looped test body most)) _
          (outer_from all low (agree_fewer (omega (arith, lt)) a)) (a.same low lt)
          (then_ends {also = false} (body (state frame memory left)) (run inner s.memory left) (looped test body most)
          (flat_meaning.in_turn (run (bind n bs)) (flat_loop other)) left refl (bodies frame memory s.memory left there)
          (λ t ran. one_falls inner s.memory left t ran)
          (λ frame memory m now lower agree own.
          go other frame memory m now (omega (arith, lower, same, fewer, few))
          (λ t ran. let down = one_falls (bind n bs) m now t ran in omega (arith, down, lower, limit))
          (record { agree = agree; holds = own }))))

      decided : (s : State) → Agree n l s.memory → s.turns ≤ turns → s.turns ≤ other → (b : Bool) → holds term s.memory ≡ b
          → (left : ℕ) → left ≡ s.turns
          → ((other : ℕ) (frame : List LocalVariable) (memory l : Memory) (turns : ℕ) → turns ≤ most
          → ((s : State) → run (bind n bs) l turns ≡ Some s → s.turns ≤ other) → Here all frame memory places l
          → LoopsEnd most other frame memory l turns)
          → Ends all low places l false
          (if b then turn_taken body (looped test body most) frame memory left else ended frame memory left None)
          (flat_loop other s.memory s.turns)
      decided s a fewer limit true is left same go =
          subst (λ k. Ends all low places l false (turn_taken body (looped test body most) frame memory left)
          (flat_loop other s.memory k)) same
          (taken s a fewer is left other same (omega (arith, limit, same)) go)
      decided s a fewer limit false is left same go =
          let there = here_same le lt o a here in
          subst (λ q. Ends all low places l false (ended frame memory left None) q)
          (sym (flat_ends (holds term) again other s.memory s.turns is))
          (OneEnd same there.agree there.holds (outer_from all low (agree_fewer (omega (arith, lt)) a))
          (sym (a.same low lt)) (λ e. refl))

      by : (v : Option Valued) (q : Option State) → ValueComes n (length bs) l term v q
          → ((s : State) → q ≡ Some s → s.turns ≤ turns) → ((s : State) → q ≡ Some s → s.turns ≤ other)
          → ((other : ℕ) (frame : List LocalVariable) (memory l : Memory) (turns : ℕ) → turns ≤ most
          → ((s : State) → run (bind n bs) l turns ≡ Some s → s.turns ≤ other) → Here all frame memory places l
          → LoopsEnd most other frame memory l turns)
          → Ends all low places l false
          (for_value v (λ word left. if is_true word then turn_taken body (looped test body most) frame memory left
          else ended frame memory left None)) (option_and_then (onward (flat_loop other)) q)
      by None None NoneComes fewer limit go = NoEnd
      by None (Some s) e fewer limit go = elim e [ ]
      by (Some v) None e fewer limit go = elim e [ ]
      by (Some v) (Some s) (OneComes same a good) fewer limit go =
          decided s a (fewer s refl) (limit s refl) (is_true v.word)
          (ap is_true (good s.memory (agree_same _ s.memory))) v.turns same go

  -- the whole loop
  pub loop_ends : (frame : List LocalVariable) (memory l : Memory) (turns : ℕ) → Here all frame memory places l
      → Ends all low places l false (looped test body turns (state frame memory turns))
      (option_and_then (onward (run (flat.While term (flat.Seq inner (bind n bs))))) (run (bind n bs) l turns))
  loop_ends frame memory l turns here = by (run (bind n bs) l turns) refl
    where
      by : (q : Option State) → run (bind n bs) l turns ≡ q
          → Ends all low places l false (looped test body turns (state frame memory turns))
          (option_and_then (onward (run (flat.While term (flat.Seq inner (bind n bs))))) q)
      by None is =
          subst (λ q. Ends all low places l false (looped test body turns (state frame memory turns))
          (option_and_then (onward (flat_loop 0)) q)) is
          (loops_end turns 0 frame memory l turns (omega arith)
          (λ s ran. absurd (let f : ◌≡◌ {A = Option State} None (Some s) = sym is ∙ ran in cc)) here)
      by (Some s) is =
          subst (λ q. Ends all low places l false (looped test body turns (state frame memory turns))
          (option_and_then (onward (flat_loop s.turns)) q)) is
          (loops_end turns s.turns frame memory l turns (omega arith)
          (λ t ran. let f : ◌≡◌ {A = Option State} (Some s) (Some t) = sym is ∙ ran in
          let same : s ≡ t = cc in
          let turns_same : s.turns ≡ t.turns = ap (λ (x : State). x.turns) same in omega (arith, turns_same)) here)
