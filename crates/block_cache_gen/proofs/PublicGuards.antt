-- The public code of a guard is passed, at any place.
use Rattle.std.proofs.Common.{◌≡◌, ℕ, ◌+◌, ◌≤◌, ◌++◌, length, length-append, subst, arith}
use Rattle.lt_isa.specs.Prelude.{Parts}
use Rattle.src_tree.specs.Prelude.{context_of, height_of, label_of, Test, TypedTest, DeclaredOnce}
use Rattle.trace_patterns.specs.Prelude.{Known}
use Rattle.stretches.specs.Prelude.{HoldsAt, AsItComes}
use Rattle.stretches.proofs.Standing.{standing-first, standing-rest}
use Rattle.stretches.proofs.Passed.{passes-then, passes-to, notes-before, notes-behind, no_note-there, notes-within, LieBetween, lie_wider, lie_both}
use Rattle.block_cache_gen.specs.declared.frames.Mode.TheVariants.{Public}
use Rattle.block_cache_gen.specs.Prelude.{Setting, HasHomes, expr_code, guard_code, base_mask, marked_by, expr_notes, guard_notes, Carries, TestHasPublicIndexes, StandsNoted, PassedTest, room_of}
use Rattle.block_cache_gen.proofs.NoteClaims.{leaves-base}
use Rattle.block_cache_gen.proofs.NotesOfCode.{expression-longer, expression-lies}
use Rattle.block_cache_gen.proofs.OperandPasses.{leaves-labelled, label-kept}
use Rattle.block_cache_gen.proofs.PublicExpressions.{expression-passes}

-- a guard's notes
pub guard-lie : (f : Setting) (to p : ℕ) (t : Test)
    → LieBetween p (p + length (guard_code f Public to t)) (guard_notes f to p t)
guard-lie f to p t =
    let first = expr_code f Public to t.left in
    let second = expr_code f Public (to + 1) t.right in
    let mask = marked_by (label_of (context_of f.decls) t.left) (base_mask f) to in
    let mid = p + length first in
    let whole = p + length (first ++ second) in
    let size : length (first ++ second) ≡ length first + length second = length-append first second in
    lie_both p whole (expr_notes f (base_mask f) to p t.left) (expr_notes f mask (to + 1) mid t.right)
    (lie_wider p mid p whole (expr_notes f (base_mask f) to p t.left) (omega arith) (omega arith)
    (expression-lies f t.left (base_mask f) to p))
    (lie_wider mid (mid + length second) p whole (expr_notes f mask (to + 1) mid t.right) (omega arith) (omega arith)
    (expression-lies f t.right mask (to + 1) mid))

-- the code of a guard is passed in public code
pub guard-passes : (o : Parts) (f : Setting) → HasHomes o f → DeclaredOnce f.decls → (t : Test)
    → TypedTest (context_of f.decls) t → TestHasPublicIndexes f t → (to p : ℕ) (k holds : Known)
    → to + height_of t.left ≤ room_of f → to + 1 + height_of t.right ≤ room_of f
    → StandsNoted o p (guard_code f Public to t) (guard_notes f to p t) → HoldsAt o p k holds → Carries f holds
    → PassedTest o f to p (guard_code f Public to t) t k
guard-passes o f homes once t typed public to p k holds high higher stands here carries =
    let known = context_of f.decls in
    let first = expr_code f Public to t.left in
    let second = expr_code f Public (to + 1) t.right in
    let size : length (first ++ second) ≡ length first + length second = length-append first second in
    let inside = stands.behind in
    let mid = p + length first in
    let whole = p + length (first ++ second) in
    let mask = marked_by (label_of known t.left) (base_mask f) to in
    let some = expression-longer f t.left to in
    let more = expression-longer f t.right (to + 1) in
    let before = expr_notes f (base_mask f) to p t.left in
    let later = expr_notes f mask (to + 1) mid t.right in
    let same : mid + length second ≡ whole = omega arith in
    let lie_before : LieBetween p mid before = expression-lies f t.left (base_mask f) to p in
    let lie_later : LieBetween mid whole later = subst (λ (q : ℕ). LieBetween mid q later) same
    (expression-lies f t.right mask (to + 1) mid) in
    let l = expression-passes o f homes once t.left typed.0 public.0 (base_mask f) to p k holds high
    (record {
      code_stands = standing-first first second stands.code_stands;
      noted = notes-before o p mid whole before later lie_before lie_later stands.noted (omega arith);
      behind = omega arith;
    }) here carries (leaves-base f to holds) in
    let there : HoldsAt o mid l.last l.last = AsItComes l.last
    (no_note-there o p mid whole before later lie_before lie_later stands.noted (omega arith) (omega arith)) in
    let r = expression-passes o f homes once t.right typed.1 public.1 mask (to + 1) mid l.last l.last higher
    (record {
      code_stands = standing-rest first second stands.code_stands;
      noted = notes-within o mid whole mid (mid + length second) later (omega arith) (omega arith)
          (notes-behind o p mid whole before later lie_before lie_later stands.noted (omega arith));
      behind = omega arith;
    }) there l.kept.carries
    (leaves-labelled f (label_of known t.left) (base_mask f) to l.last (omega arith) (leaves-base f to l.last) l.labelled) in
    record {
      last = r.last;
      passes
          = passes-to o p k (mid + length second) whole r.last same
          (passes-then o p k mid l.last l.passes (mid + length second) r.last r.passes);
      carries = r.kept.carries;
      left
          = label-kept f (label_of known t.left) (base_mask f) to (to + 1) l.last r.last (omega arith) (omega arith)
          l.labelled r.kept;
      right = r.labelled;
    }
