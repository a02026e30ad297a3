-- What is appended for expressions, guards and assignments is short, in its ranges, and its notes rise.
use Rattle.std.proofs.Common.{◌≡◌, ℕ, ◌+◌, ◌*◌, ◌<◌, ◌≤◌, List, [], ◌∷◌, length, refl, sym, subst, arith}
use Rattle.std.specs.Prelude.{All}
use Rattle.std.proofs.lemmas.List.Elements.{All-cons, All-nil}
use Rattle.gr_word.specs.declared.variables.Label.{Label}
use Rattle.lt_isa.specs.Prelude.{most_instructions}
use Rattle.lt_isa.specs.declared.instructions.Instr.{Instr}
use Rattle.lt_isa.specs.declared.symbols.Note.{Note}
use Rattle.src_tree.specs.Prelude.{Context, context_of, height_of, LowStatement, tree_weight, test_weight, statement_weight, Tree, Test, Statement, SetVariable, SetElement, Choice, Loop, TypedTree, TypedTest, TypedStatement}
use Rattle.block_cache_gen.specs.declared.frames.CodeBuf.{CodeBuf}
use Rattle.block_cache_gen.specs.declared.frames.Mode.{Mode}
use Rattle.block_cache_gen.specs.declared.frames.Mode.TheVariants.{Public, Real, Mirrored}
use Rattle.block_cache_gen.specs.Prelude.{IsAssignment, Setting, expr_code, guard_code, set_code, Appended, notes_in, EmitsExpr, EmitsGuard, EmitsSet, Extends, base_mask, expr_notes, guard_notes, set_notes, HasWords, TestHasWords, SetHasWords, room_of}
use Rattle.block_cache_gen.proofs.Emitting.{appended_length}
use Rattle.block_cache_gen.proofs.RangesOfCode.{CodeFits, HomesFit, code-all, expression-fits, guard-fits, set_variable-fits, set_element-fits}
use Rattle.block_cache_gen.proofs.RangesOfNotes.{PinsLow, NotesRise, base_mask-below, rise-fits, expression-rises, guard-rises, set-rises, expression-count, guard-count, set_variable-count, set_element-count}
use Rattle.block_cache_gen.proofs.Sizes.{expr_code_short, guard_code_short, set_code_short}

-- notes that rise are between their bounds
rise_within : (f : Setting) (least low high : ℕ) (notes : List Note) → least < low → NotesRise f low high notes
    → All (λ n. (least < n.pc) × (n.pc < high)) notes
rise_within f least low high [] below rise = All-nil (λ n. (least < n.pc) × (n.pc < high))
rise_within f least low high (n ∷ notes) below rise =
    let at = rise.0 in
    All-cons (λ m. (least < m.pc) × (m.pc < high)) n notes (omega (arith, at.0), at.1)
    (rise_within f least (n.pc + 1) high notes (omega (arith, at.0)) rise.2)

-- the notes of a mode
rise_in : (f : Setting) (mode : Mode) (code : Mode → List Instr) (place : ℕ) (notes : List Note)
    → NotesRise f (place + 1) (place + length (code Public)) notes
    → NotesRise f (place + 1) (place + length (code mode)) (notes_in mode notes)
rise_in f Public code place notes rise = rise
rise_in f Real code place notes rise = tt
rise_in f Mirrored code place notes rise = tt

count_in : (mode : Mode) (notes : List Note) → length (notes_in mode notes) ≤ length notes
count_in Public notes = omega arith
count_in Real notes = omega arith
count_in Mirrored notes = omega arith

silent_in : (mode : Mode) (notes : List Note) → ¬ (mode ≡ Public) → notes_in mode notes ≡ []
silent_in Public notes secret = absurd (secret refl)
silent_in Real notes secret = refl
silent_in Mirrored notes secret = refl

-- anything appended within its weight, in its ranges and with rising notes extends the code
pub extends : (f : Setting) (banks : ℕ) (mode : Mode) (weight : ℕ) (code : Mode → List Instr) (noted : ℕ → List Note)
    (a b : CodeBuf)
    → 2 ≤ banks → PinsLow f → Appended a b (code mode) (λ place. notes_in mode (noted place))
    → length (code mode) ≤ 120 * weight
    → length (noted (length a.code.items)) ≤ 16 * weight → CodeFits banks (code mode)
    → NotesRise f (length a.code.items + 1) (length a.code.items + length (code Public)) (noted (length a.code.items))
    → length a.code.items + 120 * weight ≤ most_instructions → Extends banks mode weight a b
extends f banks mode weight code noted a b some pins x few few_notes fits rise room =
    let place = length a.code.items in
    let notes = noted place in
    let here = rise_in f mode code place notes rise in
    let size = appended_length a b (code mode) _ x in
    let count = count_in mode notes in
    record {
      more = code mode;
      noted = notes_in mode notes;
      code = x.code;
      notes = x.notes;
      few = few;
      few_notes = omega arith;
      in_range = code-all banks (code mode) fits;
      rising = λ earlier before.
          rise-fits f banks some pins (place + 1) (place + length (code mode)) earlier
          (notes_in mode notes) before (omega arith) here;
      placed = subst (λ n. All (λ m. (place < m.pc) × (m.pc < n)) (notes_in mode notes)) (sym size)
          (rise_within f place (place + 1) (place + length (code mode)) (notes_in mode notes) (omega arith) here);
      silent = silent_in mode notes;
    }

-- the code of an expression extends the code before it
pub expr_extends : (f : Setting) (banks : ℕ) (mode : Mode) (to : ℕ) (e : Tree) (a b : CodeBuf)
    → 2 ≤ banks → HomesFit banks f → TypedTree (context_of f.decls) e → to + height_of e ≤ room_of f → HasWords e
    → length a.code.items + 120 * tree_weight e ≤ most_instructions → EmitsExpr f mode (base_mask f) to e a b
    → Extends banks mode (tree_weight e) a b
expr_extends f banks mode to e a b some homes typed low words room x =
    let short = expr_code_short f mode to e in
    let count = expression-count f e (base_mask f) to (length a.code.items) in
    extends f banks mode (tree_weight e) (λ m. expr_code f m to e)
    (λ place. expr_notes f (base_mask f) to place e) a b some homes.pins x
    (omega arith) (omega arith) (expression-fits banks f mode homes to e typed words low)
    (expression-rises f e (base_mask f) to (length a.code.items) (base_mask-below f)) room

-- that of a guard
pub guard_extends : (f : Setting) (banks : ℕ) (mode : Mode) (to : ℕ) (t : Test) (a b : CodeBuf)
    → 2 ≤ banks → HomesFit banks f
    → TypedTest (context_of f.decls) t → to + height_of t.left ≤ room_of f → to + 1 + height_of t.right ≤ room_of f
    → TestHasWords t
    → length a.code.items + 120 * test_weight t ≤ most_instructions → EmitsGuard f mode to t a b
    → Extends banks mode (test_weight t) a b
guard_extends f banks mode to t a b some homes typed low lower words room x =
    let short = guard_code_short f mode to t in
    let count = guard-count f to (length a.code.items) t in
    extends f banks mode (test_weight t) (λ m. guard_code f m to t)
    (λ place. guard_notes f to place t) a b some homes.pins x
    (omega arith) (omega arith) (guard-fits banks f mode homes to t typed words.0 words.1 low lower)
    (guard-rises f to (length a.code.items) t) room

set_fits : (f : Setting) (banks : ℕ) (mode : Mode) (s : Statement) → HomesFit banks f → IsAssignment s
    → (code : Label) → TypedStatement (context_of f.decls) code s → LowStatement s → SetHasWords s
    → CodeFits banks (set_code f mode s)
set_fits f banks mode (SetVariable x e) homes is code typed low words =
    set_variable-fits banks f mode homes x typed.0.0 _ e typed.0.1 typed.1.0 words (omega arith)
set_fits f banks mode (SetElement x i e) homes is code typed low words =
    let index = low.0 in
    let value = low.1 in
    set_element-fits banks f mode homes x i e typed.0 typed.1.0 words.0 words.1 (omega arith) (omega arith)
set_fits f banks mode (Choice t a b) homes is code typed low words = absurd is
set_fits f banks mode (Loop t a) homes is code typed low words = absurd is

set_count : (f : Setting) (known : Context) (code : Label) (place : ℕ) (s : Statement) → IsAssignment s
    → length (set_notes f place s) ≤ 16 * statement_weight known code s
set_count f known code place (SetVariable x e) is =
    let count = set_variable-count f place x e in omega arith
set_count f known code place (SetElement x i e) is =
    let count = set_element-count f place x i e in omega arith
set_count f known code place (Choice t a b) is = absurd is
set_count f known code place (Loop t a) is = absurd is

-- and that of an assignment
pub set_extends : (f : Setting) (banks : ℕ) (mode : Mode) (known : Context) (label : Label) (s : Statement)
    (a b : CodeBuf) → 2 ≤ banks
    → HomesFit banks f → IsAssignment s → (code : Label) → TypedStatement (context_of f.decls) code s → LowStatement s
    → SetHasWords s → length a.code.items + 120 * statement_weight known label s ≤ most_instructions
    → EmitsSet f mode s a b → Extends banks mode (statement_weight known label s) a b
set_extends f banks mode known label s a b some homes is code typed low words room x =
    let short = set_code_short f mode known label s is in
    extends f banks mode (statement_weight known label s) (λ m. set_code f m s)
    (λ place. set_notes f place s) a b some homes.pins x
    (omega arith) (set_count f known label (length a.code.items) s is)
    (set_fits f banks mode s homes is code typed low words)
    (set-rises f (length a.code.items) s) room
