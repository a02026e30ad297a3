-- One iteration of a loop in execution: what is still to do has the result of the whole loop.
use Rattle.std.proofs.Common.{◌≡◌, ℕ, zero, suc, ◌-◌, ◌<◌, Bool, true, false, Option, Some, None, sym, ap, ◌∙◌, arith}
use Rattle.std.specs.Option.{option_and_then}
use Rattle.src_tree.specs.Prelude.{Store, Left, Execution, loop}
use Rattle.src_tree.proofs.Loops.{TurnsFall, loop_ends, loop_spent, loop_again}
use Rattle.source_meaning.specs.Prelude.{left_with}

module _ (test : Store → Bool) (body : Execution) (store : Store) (before : Left) where
  -- a loop whose test is false has finished
  pub ended : (turns : ℕ) → test store ≡ false → loop test body (left_with store turns) ≡ loop test body before
      → Some (left_with store turns) ≡ loop test body before
  ended turns fails so_far = sym (loop_ends test body store turns fails) ∙ so_far

  -- a loop whose test is true and that has no iteration left is spent
  pub spent : (turns : ℕ)
      → test store ≡ true → turns ≡ 0 → loop test body (left_with store turns) ≡ loop test body before
      → None ≡ loop test body before
  spent turns holds none so_far =
      sym (loop_spent test body store holds) ∙ ap (λ n. loop test body (left_with store n)) (sym none) ∙ so_far

  -- the body with one fewer iteration, and then the loop
  pub onward : TurnsFall body → (turns : ℕ) (r : Option Left) → test store ≡ true → 0 < turns
      → r ≡ body (left_with store (turns - 1)) → loop test body (left_with store turns) ≡ loop test body before
      → option_and_then (loop test body) r ≡ loop test body before
  onward falls zero r holds some ran so_far = absurd (omega arith)
  onward falls (suc turns) r holds some ran so_far =
      ap (option_and_then (loop test body))
      (ran ∙ ap (λ n. body (left_with store n)) (let e : suc turns - 1 ≡ turns = omega arith in e))
      ∙ sym (loop_again test body falls store turns holds)
      ∙ so_far
