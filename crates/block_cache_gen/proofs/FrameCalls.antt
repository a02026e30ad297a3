-- What the calls over a frame append.
use Rattle.std.proofs.Common.{◌≡◌, ℕ, ◌+◌, ◌*◌, ◌≤◌, length, Result, Ok, Err, subst}
use Rattle.std.specs.Prelude.{OnOk}
use Rattle.gr_word.specs.declared.variables.Label.{Label}
use Rattle.lt_isa.specs.Prelude.{most_instructions}
use Rattle.src_tree.specs.Prelude.{context_of, height_of, tree_weight, test_weight, statement_weight, Tree, Test, Statement, source_of, TypedTree, TypedTest}
use Rattle.block_cache_gen.specs.declared.frames.CodeBuf.{CodeBuf}
use Rattle.block_cache_gen.specs.declared.frames.Frame.{Frame}
use Rattle.block_cache_gen.specs.declared.frames.Mode.{Mode}
use Rattle.block_cache_gen.specs.Prelude.{IsAssignment, IsStatementFor, EmitsExpr, EmitsGuard, EmitsSet, Extends, Setting, base_mask, IsFrame, setting_of, HasWords, TestHasWords, SetHasWords, room_of}
use Rattle.block_cache_gen.proofs.Extending.{expr_extends, guard_extends, set_extends}
use Rattle.block_cache_gen.proofs.HomesOfFrames.{plain_fit, plain_banks}
use Rattle.src_tree.proofs.ProgramStatements.{statement_typed, statement_low}

-- two clauses on what was answered
pub on_ok_both : {T E P Q R : Type 0} (r : Result T E) → OnOk r P → OnOk r Q → (P → Q → R) → OnOk r R
on_ok_both (Ok x) p q h = h p q
on_ok_both (Err e) p q h = tt

abbrev pub banks_of : Frame → ℕ
banks_of f = length f.places.now.blocks.items

-- the code of an expression extends what was there
pub frame_expr : (f : Frame) (s : Setting) (mode : Mode) (to : ℕ) (e : Tree) (a b : CodeBuf)
    → IsFrame f → s ≡ setting_of f → TypedTree (context_of f.program.now.decls.items) e
    → to + height_of e ≤ room_of (setting_of f)
    → length a.code.items + 120 * tree_weight e ≤ most_instructions → EmitsExpr s mode (base_mask s) to e a b → HasWords e
    → Extends (banks_of f) mode (tree_weight e) a b
frame_expr f s mode to e a b is same typed low room x words =
    expr_extends (setting_of f) (banks_of f) mode to e a b (plain_banks f is) (plain_fit f is) typed low words room
    (let P : Setting → Type 0 = λ t. EmitsExpr t mode (base_mask t) to e a b in subst P same x)

-- so does that of a guard
pub frame_guard : (f : Frame) (s : Setting) (mode : Mode) (to : ℕ) (t : Test) (a b : CodeBuf)
    → IsFrame f → s ≡ setting_of f
    → TypedTest (context_of f.program.now.decls.items) t → to + height_of t.left ≤ room_of (setting_of f)
    → to + 1 + height_of t.right ≤ room_of (setting_of f)
    → length a.code.items + 120 * test_weight t ≤ most_instructions → EmitsGuard s mode to t a b → TestHasWords t
    → Extends (banks_of f) mode (test_weight t) a b
frame_guard f s mode to t a b is same typed low lower room x words =
    guard_extends (setting_of f) (banks_of f) mode to t a b (plain_banks f is)
    (plain_fit f is) typed low lower words room
    (let P : Setting → Type 0 = λ u. EmitsGuard u mode to t a b in subst P same x)

-- and that of an assignment
pub frame_set : (f : Frame) (s : Setting) (mode : Mode) (label : Label) (t : Statement) (a b : CodeBuf)
    → IsFrame f → s ≡ setting_of f → IsAssignment t → IsStatementFor (source_of f.program.now) mode t
    → length a.code.items + 120 * statement_weight (context_of f.program.now.decls.items) label t ≤ most_instructions
    → EmitsSet s mode t a b → SetHasWords t
    → Extends (banks_of f) mode (statement_weight (context_of f.program.now.decls.items) label t) a b
frame_set f s mode label t a b is same assigns stands room x words =
    set_extends (setting_of f) (banks_of f) mode (context_of f.program.now.decls.items) label t a b (plain_banks f is)
    (plain_fit f is) assigns stands.code
    (statement_typed (source_of f.program.now) stands.code t is.typed stands.stands)
    (statement_low (source_of f.program.now) stands.code t is.within stands.stands) words room
    (let P : Setting → Type 0 = λ u. EmitsSet u mode t a b in subst P same x)
