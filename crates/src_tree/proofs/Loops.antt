-- Loops: a loop ends if its guard is false; it is spent if its guard is true and no iteration is left; otherwise it
-- executes its body and then the loop again, with one fewer iteration. Statements never leave more iterations than
-- there were.
use Rattle.std.proofs.Common.{◌≡◌, ℕ, zero, suc, ◌≤◌, Bool, true, false, if◌then◌else◌, Option, Some, None, List, refl, ap, ◌∙◌, arith}
use Rattle.std.specs.Option.{option_and_then}
use Rattle.src_tree.specs.declared.trees.Decl.{Decl}
use Rattle.src_tree.specs.Prelude.{Block, Store, Left, Execution, in_turn, turn_taken, looped, loop, run_of_block}
use Rattle.src_tree.proofs.KeptByRuns.{IsKept, one_keeps, both_keep, either_keeps, loop_keeps, block_keeps}
pub use Rattle.src_tree.proofs.KeptByRuns.{left}

-- statements that never leave more iterations than there were
pub record TurnsFall (run : Execution) : Type 0 where
  pub fall : (before after : Left) → run before ≡ Some after → after.turns ≤ before.turns

-- two continuations that agree on the state
pub same_after : (first second : Execution) (r : Option Left)
    → ((after : Left) → r ≡ Some after → first after ≡ second after)
    → option_and_then first r ≡ option_and_then second r
same_after first second None agree = refl
same_after first second (Some after) agree = agree after refl

-- bounds of a loop don't matter if they aren't below the iterations that are left
bounds : (holds : Store → Bool) (body : Execution) → TurnsFall body → (n m turns : ℕ) (store : Store) → turns ≤ n
    → turns ≤ m
    → looped holds body n (left store turns) ≡ looped holds body m (left store turns)
unfolding looped
bounds holds body falls zero zero turns store below within = refl
bounds holds body falls zero (suc m) zero store below within = refl
bounds holds body falls zero (suc m) (suc turns) store below within = absurd (omega arith)
bounds holds body falls (suc n) zero zero store below within = refl
bounds holds body falls (suc n) zero (suc turns) store below within = absurd (omega arith)
bounds holds body falls (suc n) (suc m) zero store below within = refl
bounds holds body falls (suc n) (suc m) (suc turns) store below within =
    ap (λ (r : Option Left). if holds store then r else Some (left store (suc turns)))
    (same_after (looped holds body n) (looped holds body m) (body (left store turns))
    (λ after e. let fewer = falls.fall (left store turns) after e in
    bounds holds body falls n m after.turns after.store (omega arith) (omega arith)))

-- loops whose tests and bodies agree
pub looped_alike : (test other : Store → Bool) (body instead : Execution) → ((store : Store) → test store ≡ other store)
    → ((before : Left) → body before ≡ instead before) → (most : ℕ) (before : Left)
    → looped test body most before ≡ looped other instead most before
unfolding looped
looped_alike test other body instead tests bodies zero before =
    ap (λ b. if b then None else Some before) (tests before.store)
looped_alike test other body instead tests bodies (suc most) before =
    ap (λ b. if b then turn_taken body (looped test body most) before.turns before.store else Some before)
    (tests before.store)
    ∙ ap (λ (r : Option Left). if other before.store then r else Some before)
    (taken (looped_alike test other body instead tests bodies most) before.turns before.store)
  where
    taken : ((after : Left) → looped test body most after ≡ looped other instead most after)
        → (turns : ℕ) (store : Store) → turn_taken body (looped test body most) turns store
        ≡ turn_taken instead (looped other instead most) turns store
    taken rest zero store = refl
    taken rest (suc turns) store =
        ap (option_and_then (looped test body most)) (bodies (left store turns))
        ∙ same_after (looped test body most) (looped other instead most)
        (instead (left store turns)) (λ after e. rest after)

-- a loop whose test is false ends at once
pub loop_ends : (holds : Store → Bool) (body : Execution) (store : Store) (turns : ℕ) → holds store ≡ false
    → loop holds body (left store turns) ≡ Some (left store turns)
unfolding looped
loop_ends holds body store zero e = ap (λ b. if b then None else Some (left store zero)) e
loop_ends holds body store (suc turns) e =
    ap (λ b. if b then turn_taken body (looped holds body turns) (suc turns) store else Some (left store (suc turns))) e

-- a loop whose test is true and that has no iteration left is spent
pub loop_spent : (holds : Store → Bool) (body : Execution) (store : Store) → holds store ≡ true
    → loop holds body (left store 0) ≡ None
unfolding looped
loop_spent holds body store e = ap (λ b. if b then None else Some (left store 0)) e

-- a loop whose test is true starts an iteration
pub loop_again : (holds : Store → Bool) (body : Execution) → TurnsFall body → (store : Store) (turns : ℕ) → holds store
    ≡ true
    → loop holds body (left store (suc turns)) ≡ in_turn body (loop holds body) (left store turns)
unfolding looped
loop_again holds body falls store turns e =
    ap (λ b. if b then turn_taken body (looped holds body turns) (suc turns) store else Some (left store (suc turns))) e
    ∙ same_after (looped holds body turns) (loop holds body) (body (left store turns))
    (λ after f. let fewer = falls.fall (left store turns) after f in
    bounds holds body falls turns after.turns after.turns after.store (omega arith) (omega arith))

-- a state with no more iterations than before
abbrev NoMore : Left → Left → Type 0
NoMore before after = after.turns ≤ before.turns

falls_kept : IsKept NoMore
falls_kept = record {
  same = λ before. omega arith;
  goes_on = λ before between after first second. omega (arith, first, second);
  turn = λ store turns. omega arith;
}

-- two executions in sequence
pub both_fall : (first second : Execution) → TurnsFall first → TurnsFall second → TurnsFall (in_turn first second)
both_fall first second a b =
    record { fall = both_keep NoMore falls_kept first second a.fall b.fall }

-- a loop adds no iterations if its body adds none
pub loop_falls : (holds : Store → Bool) (body : Execution) → TurnsFall body → TurnsFall (loop holds body)
loop_falls holds body falls =
    record { fall = loop_keeps NoMore falls_kept holds body falls.fall }

-- a statement that isn't a loop adds no iterations
pub one_falls : (before after : Left) (store : Store)
    → Some (left store before.turns) ≡ Some after → after.turns ≤ before.turns
one_falls before after store e =
    one_keeps NoMore falls_kept before (left store before.turns) after (omega arith) e

-- a choice adds no iterations if neither block does
pub either_falls : (b : Bool) (first second : Execution) → TurnsFall first → TurnsFall second → (before after : Left)
    → (if b then first before else second before) ≡ Some after → after.turns ≤ before.turns
either_falls b first second a c =
    either_keeps NoMore falls_kept b first second a.fall c.fall

-- no block adds iterations
pub block_falls : (decls : List Decl) (b : Block) → TurnsFall (run_of_block decls b)
block_falls decls b = record {
  fall = block_keeps NoMore falls_kept (λ before k at value. omega arith) decls b;
}
