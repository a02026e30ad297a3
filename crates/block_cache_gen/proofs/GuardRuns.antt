-- The code of a guard, run, leaves its two sides; a branch on them is taken where they compare so.
use Rattle.std.proofs.Common.{ℕ, ◌+◌, ◌≤◌, ◌++◌, sym, ap, ◌∙◌, arith}
use Rattle.lt_isa.specs.Prelude.{Parts, IsInRange, State, IsShaped}
use Rattle.stretches.specs.Prelude.{StandsAt, RunsThrough}
use Rattle.stretches.proofs.RunningThrough.{runs-append, runs-weaker}
use Rattle.src_tree.specs.Prelude.{context_of, height_of, Store, evaluated, Test, TypedTest}
use Rattle.scalar_ranges.specs.Prelude.{AreWithin}
use Rattle.block_cache_gen.specs.declared.frames.Mode.{Mode}
use Rattle.block_cache_gen.specs.Prelude.{Setting, HasHomes, expr_code, guard_code, StandsFor, FitsHomes, accesses, test_accesses, slots_after, seen_of_all, LeavesWord, LeavesBoth, room_of}
use Rattle.block_cache_gen.proofs.AccessLaws.{slots_after-append, seen_of_all-append}
use Rattle.block_cache_gen.proofs.ExpressionRuns.{runs-expression}

module _ (o : Parts) (fits : IsInRange o) (f : Setting) (homes : HasHomes o f) (store : Store)
    (store_fits : FitsHomes f store) where
  -- the code of a guard leaves its two sides in two registers
  pub runs-guard : AreWithin f.ranges store → (mode : Mode) (t : Test) → TypedTest (context_of f.decls) t
      → (to : ℕ) → to + height_of t.left ≤ room_of f
      → (to + 1) + height_of t.right ≤ room_of f → (s : State) → IsShaped o s → StandsFor f s store
      → StandsAt o s.place (guard_code f mode to t)
      → RunsThrough o s (guard_code f mode to t) (seen_of_all mode s.banks s.slots (test_accesses f store t))
      (LeavesBoth f store (test_accesses f store t) to (evaluated f.decls store t.left)
      (evaluated f.decls store t.right) s)
  runs-guard within mode t typed to room room' s shaped stands at =
      let first = expr_code f mode to t.left in
      let second = expr_code f mode (to + 1) t.right in
      let before = accesses f store t.left in
      let then = accesses f store t.right in
      let a = evaluated f.decls store t.left in
      let b = evaluated f.decls store t.right in
      let seen_first = seen_of_all mode s.banks s.slots before in
      let seen_then = seen_of_all mode s.banks (slots_after s.banks s.slots before) then in
      let Done : State → Type 0 = LeavesBoth f store (before ++ then) to a b s in
      runs-weaker s (first ++ second) (seen_first ++ seen_then)
      (seen_of_all mode s.banks s.slots (before ++ then)) Done Done
      (runs-append s first second seen_first seen_then (LeavesWord f store before to a s) Done at
      (runs-expression o fits f homes store store_fits within mode t.left typed.0 to room s shaped stands)
      (λ u shape leaves at'.
      runs-weaker u second (seen_of_all mode u.banks u.slots then) seen_then (LeavesWord f store then (to + 1) b u) Done
      (runs-expression o fits f homes store store_fits within mode t.right typed.1 (to + 1) room' u shape leaves.stands at')
      (ap (λ l. seen_of_all mode l u.slots then) leaves.banks ∙ ap (λ l. seen_of_all mode s.banks l then) leaves.slots)
      (λ v shape' leaves'. record {
        first = leaves'.below to (omega arith) ∙ leaves.value;
        second = leaves'.value;
        below = λ r under. leaves'.below r (omega arith) ∙ leaves.below r under;
        banks = leaves'.banks ∙ leaves.banks;
        slots =
            leaves'.slots
            ∙ ap (λ l. slots_after l u.slots then) leaves.banks
            ∙ ap (λ l. slots_after s.banks l then) leaves.slots
            ∙ sym (slots_after-append s.banks s.slots before then);
        stands = leaves'.stands;
      })))
      (sym (seen_of_all-append mode s.banks s.slots before then))
      (λ u shape done. done)
