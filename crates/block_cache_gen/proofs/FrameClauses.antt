-- What the code that the calls over a frame append does, and how the check passes and walks it.
use Rattle.std.proofs.Common.{◌≡◌, ℕ, ◌+◌, ◌≤◌, false, List, drop, length, refl, sym, ap, ◌∙◌, subst, arith}
use Rattle.std.proofs.Math.Seq.{drop-append_seam}
use Rattle.gr_word.specs.declared.variables.Label.{Label}
use Rattle.lt_isa.specs.declared.instructions.Instr.{Instr}
use Rattle.lt_isa.specs.declared.symbols.Note.{Note}
use Rattle.src_tree.specs.Prelude.{context_of, height_of, LowStatement, Tree, Test, Statement, SetVariable, SetElement, Choice, Loop, Source, source_of, TypedTree, TypedTest, TypedStatement, DeclaredOnce}
use Rattle.held_registers.specs.Prelude.{IsSoundHeld}
use Rattle.held_registers.proofs.Sound.{nothing-sound}
use Rattle.block_cache_gen.specs.declared.frames.CodeBuf.{CodeBuf}
use Rattle.block_cache_gen.specs.declared.frames.Frame.{Frame}
use Rattle.block_cache_gen.specs.declared.frames.Mode.{Mode}
use Rattle.block_cache_gen.specs.declared.frames.Mode.TheVariants.{Public, Real, Mirrored}
use Rattle.block_cache_gen.specs.Prelude.{IsAssignment, code_behind, notes_behind, may_skip_loads, expr_code, guard_code, set_code, IsStatementFor, Appended, notes_in, EmitsExpr, EmitsGuard, EmitsSet, Setting, IsCodeOfSet, base_mask, expr_notes, guard_notes, set_notes, IsPassedAsExpr, IsPassedAsTest, IsPassedAsSet, HasPublicIndexes, TestHasPublicIndexes, SetHasPublicIndexes, Evaluates, EvaluatesTest, Performs, IsWalkedAsExpr, IsWalkedAsTest, IsWalkedAsSet, IsFrame, setting_of, stored_words, written_words, set_stores, mode_writes, AreTwins, HasTwin, other_mode, room_of}
use Rattle.block_cache_gen.proofs.WrittenWords.{set-writes}
use Rattle.block_cache_gen.proofs.FrameIndexes.{frame_public, set_of_statement}
use Rattle.src_tree.proofs.ProgramStatements.{statement_typed, statement_low}
use Rattle.block_cache_gen.proofs.PublicAssignments.{set_variable-passes, set_element-passes}
use Rattle.block_cache_gen.proofs.PublicExpressions.{expression-passes}
use Rattle.block_cache_gen.proofs.NoteClaims.{leaves-base}
use Rattle.block_cache_gen.proofs.PublicGuards.{guard-passes}
use Rattle.block_cache_gen.proofs.RunsOf.{expression-evaluates, guard-evaluates, assignment-performs}
use Rattle.block_cache_gen.proofs.SecretCodes.{expr-stores, guard-stores, variable-stores, element-stores, set_code-mirrors}
use Rattle.block_cache_gen.proofs.SecretWalks.{expr-walked, guard-walked, set-walked}
use Rattle.gr_word.specs.declared.variables.Label.TheVariants as label

-- the rest is what was appended
pub behind-holds : (a b : CodeBuf) (more : List Instr) (noted : ℕ → List Note) → Appended a b more noted
    → (P : List Instr → List Note → Type 0) → P more (noted (length a.code.items))
    → P (code_behind a b) (notes_behind a b)
behind-holds a b more noted x P holds =
    let code : code_behind a b ≡ more =
    ap (drop (length a.code.items)) x.code ∙ drop-append_seam a.code.items more in
    let notes : notes_behind a b ≡ noted (length a.code.items) =
    ap (drop (length a.notes.items)) x.notes ∙ drop-append_seam a.notes.items (noted (length a.code.items)) in
    subst (λ xs. P xs (notes_behind a b)) (sym code) (subst (P more) (sym notes) holds)

-- what isn't public is secret code
pub secret_mode : (mode : Mode) → ¬ (mode ≡ Public) → may_skip_loads mode ≡ false
secret_mode Public secret = absurd (secret refl)
secret_mode Real secret = refl
secret_mode Mirrored secret = refl

other_secret : (mode : Mode) → ¬ (mode ≡ Public) → may_skip_loads (other_mode mode) ≡ false
other_secret Public secret = absurd (secret refl)
other_secret Real secret = refl
other_secret Mirrored secret = refl

-- an expression
module _ (f : Setting) (once : DeclaredOnce f.decls) (to : ℕ) (e : Tree) (typed : TypedTree (context_of f.decls) e)
    (public : HasPublicIndexes f e) (low : to + height_of e ≤ room_of f) where
  expr-passed : (place : ℕ)
      → IsPassedAsExpr f to e place (expr_code f Public to e) (expr_notes f (base_mask f) to place e)
  expr-passed place o comes holds homes stands here carries =
      let v = expression-passes o f homes once e typed public (base_mask f) to place comes holds low stands here carries
      (leaves-base f to holds) in
      record { last = v.last; passes = v.passes; carries = v.kept.carries; value = v.labelled }

-- The clauses for code in a mode: what runs leave, how the check passes it and walks it, and that it stores no word.
pub record Promises (f : Setting) (mode : Mode) (code : List Instr) (leaves passed walks : Type 0) : Type 0 where
  pub runs : leaves
  pub passes : mode ≡ Public → passed
  pub walked : ¬ (mode ≡ Public) → walks
  pub stores : stored_words f.reduces code ≡ 0

-- those for the code and the notes that a call made of an expression, with n instructions before them
abbrev pub ExprPromises : Setting → Mode → (to : ℕ) → Tree → (n : ℕ) → List Instr → List Note → Type 0
ExprPromises f mode to e n code notes =
    Promises f mode code (Evaluates f mode to e code) (IsPassedAsExpr f to e n code notes) (IsWalkedAsExpr f to e code)

-- what was appended for an expression does what is promised
pub frame-expr_promises : (f : Frame) (s : Setting) (mode : Mode) (to : ℕ) (e : Tree) (a b : CodeBuf) → IsFrame f
    → s ≡ setting_of f → TypedTree (context_of f.program.now.decls.items) e → HasPublicIndexes (setting_of f) e
    → to + height_of e ≤ room_of (setting_of f) → EmitsExpr s mode (base_mask s) to e a b
    → ExprPromises (setting_of f) mode to e (length a.code.items) (code_behind a b) (notes_behind a b)
frame-expr_promises f s mode to e a b is same typed public low x =
    let g = setting_of f in
    let place = length a.code.items in
    let y : EmitsExpr g mode (base_mask g) to e a b =
    let P : Setting → Type 0 = λ t. EmitsExpr t mode (base_mask t) to e a b in subst P same x in
    behind-holds a b (expr_code g mode to e) (λ p. notes_in mode (expr_notes g (base_mask g) to p e)) y
    (λ code notes. ExprPromises g mode to e place code notes)
    (record {
      runs = expression-evaluates g mode to e typed low;
      passes = λ public_mode.
          let P : Mode → Type 0 =
          λ m. IsPassedAsExpr g to e place (expr_code g m to e) (notes_in m (expr_notes g (base_mask g) to place e)) in
          subst P (sym public_mode) (expr-passed g is.typed.once to e typed public low place);
      walked = λ secret. expr-walked g mode (secret_mode mode secret) to e typed public low;
      stores = expr-stores g.reduces g mode to e;
    })

-- and those for a guard
abbrev pub TestPromises : Setting → Mode → (to : ℕ) → Test → (place : ℕ) → List Instr → List Note → Type 0
TestPromises f mode to t place code notes =
    Promises f mode code (EvaluatesTest f mode to t code) (IsPassedAsTest f to t place code notes)
    (IsWalkedAsTest f to t code)

-- and what was appended for a guard
pub frame-test_promises : (f : Frame) (s : Setting) (mode : Mode) (to : ℕ) (t : Test) (a b : CodeBuf) → IsFrame f
    → s ≡ setting_of f → TypedTest (context_of f.program.now.decls.items) t → TestHasPublicIndexes (setting_of f) t
    → to + height_of t.left ≤ room_of (setting_of f) → to + 1 + height_of t.right ≤ room_of (setting_of f)
    → EmitsGuard s mode to t a b
    → TestPromises (setting_of f) mode to t (length a.code.items) (code_behind a b) (notes_behind a b)
frame-test_promises f s mode to t a b is same typed public low lower x =
    let g = setting_of f in
    let place = length a.code.items in
    let y : EmitsGuard g mode to t a b =
    let P : Setting → Type 0 = λ u. EmitsGuard u mode to t a b in subst P same x in
    behind-holds a b (guard_code g mode to t) (λ p. notes_in mode (guard_notes g to p t)) y
    (λ code notes. TestPromises g mode to t place code notes)
    (record {
      runs = guard-evaluates g mode to t typed low lower;
      passes = λ public_mode.
          let P : Mode → Type 0 =
          λ m. IsPassedAsTest g to t place (guard_code g m to t) (notes_in m (guard_notes g to place t)) in
          subst P (sym public_mode)
          (λ o comes holds homes stands here carries.
          guard-passes o g homes is.typed.once t typed public to place comes holds low lower stands here carries);
      walked = λ secret. guard-walked g mode (secret_mode mode secret) to t typed public low lower;
      stores = guard-stores g.reduces g mode to t;
    })

-- The clauses for those of an assignment.
pub record SetPromises (f : Setting) (mode : Mode) (t : Statement) (place : ℕ) (code : List Instr)
    (notes : List Note) : Type 0 where
  pub runs : Performs f mode t code
  pub passes : mode ≡ Public → IsPassedAsSet f place code notes
  pub walked : ¬ (mode ≡ Public) → IsWalkedAsSet f t code
  pub stores : stored_words f.reduces code ≡ set_stores f t
  pub writes : written_words f.reduces code ≡ mode_writes mode f t
  pub instructions : IsCodeOfSet f mode t code
  pub twin : ¬ (mode ≡ Public) → HasTwin f mode t code

set-stores : (f : Setting) (mode : Mode) (t : Statement) → IsAssignment t
    → stored_words f.reduces (set_code f mode t) ≡ set_stores f t
set-stores f mode (SetVariable x e) is = variable-stores f mode x e
set-stores f mode (SetElement x i e) is = element-stores f mode x i e
set-stores f mode (Choice t a b) is = absurd is
set-stores f mode (Loop t a) is = absurd is

set-passed : (f : Setting) → DeclaredOnce f.decls → (code : Label) (t : Statement) → IsAssignment t
    → TypedStatement (context_of f.decls) code t → SetHasPublicIndexes f t → LowStatement t → (place : ℕ)
    → IsPassedAsSet f place (set_code f Public t) (set_notes f place t)
set-passed f once code (SetVariable x e) is typed public low place o comes holds homes stands here carries =
    set_variable-passes o f homes once code x e typed public (omega (arith, low)) place comes holds stands here carries
set-passed f once code (SetElement x i e) is typed public low place o comes holds homes stands here carries =
    set_element-passes o f homes once code x i e typed public (omega (arith, low.0)) (omega (arith, low.1)) place comes
    holds stands here carries
set-passed f once code (Choice t a b) is typed public low place o comes holds homes stands here carries = absurd is
set-passed f once code (Loop t a) is typed public low place o comes holds homes stands here carries = absurd is

own-code : (f : Setting) → IsSoundHeld f.decls f.held → (mode : Mode) (t : Statement)
    → IsCodeOfSet f mode t (set_code f mode t)
own-code f sound Public t = tt
own-code f sound Real t = refl
own-code f sound Mirrored t = set_code-mirrors f sound t

are-twins : (f : Setting) → IsSoundHeld f.decls f.held → (mode : Mode) (t : Statement)
    → AreTwins f.reduces mode (set_code f mode t) (set_code f (other_mode mode) t)
are-twins f sound Public t = refl
are-twins f sound Real t = set_code-mirrors f sound t
are-twins f sound Mirrored t = set_code-mirrors f sound t

-- an assignment for which secret code is made is in secret code
secret_code : (p : Source) (mode : Mode) (t : Statement) (stands : IsStatementFor p mode t) → ¬ (mode ≡ Public)
    → stands.code ≡ label.Secret
secret_code p Public t stands secret = absurd (secret refl)
secret_code p Real t stands secret = stands.for_code
secret_code p Mirrored t stands secret = stands.for_code

-- and what was appended for an assignment
pub frame-set_promises : (f : Frame) (s : Setting) (mode : Mode) (t : Statement) (a b : CodeBuf) → IsFrame f
    → s ≡ setting_of f → IsAssignment t → IsStatementFor (source_of f.program.now) mode t → EmitsSet s mode t a b
    → SetPromises (setting_of f) mode t (length a.code.items) (code_behind a b) (notes_behind a b)
frame-set_promises f s mode t a b is same assigns stands x =
    let g = setting_of f in
    let place = length a.code.items in
    let p = source_of f.program.now in
    let typed = statement_typed p stands.code t is.typed stands.stands in
    let low = statement_low p stands.code t is.within stands.stands in
    let held = nothing-sound p.decls in
    let public = set_of_statement g t (frame_public f is stands.code t stands.stands) in
    let y : EmitsSet g mode t a b = let P : Setting → Type 0 = λ u. EmitsSet u mode t a b in subst P same x in
    let inside : ¬ (mode ≡ Public) → TypedStatement (context_of g.decls) label.Secret t = (λ secret.
    subst (λ l. TypedStatement (context_of g.decls) l t) (secret_code p mode t stands secret) typed) in
    behind-holds a b (set_code g mode t) (λ p. notes_in mode (set_notes g p t)) y
    (λ code notes. SetPromises g mode t place code notes)
    (record {
      runs = assignment-performs g mode stands.code t assigns typed low;
      passes = λ public_mode.
          let P : Mode → Type 0 =
          λ m. IsPassedAsSet g place (set_code g m t) (notes_in m (set_notes g place t)) in
          subst P (sym public_mode) (set-passed g is.typed.once stands.code t assigns typed public low place);
      walked = λ secret. set-walked g mode (secret_mode mode secret) t (inside secret) public low;
      stores = set-stores g mode t assigns;
      writes = set-writes g held mode t assigns low;
      instructions = own-code g held mode t;
      twin = λ secret. record {
        twin = set_code g (other_mode mode) t;
        same = are-twins g held mode t;
        performs = assignment-performs g (other_mode mode) stands.code t assigns typed low;
        walked = set-walked g (other_mode mode) (other_secret mode secret) t (inside secret) public low;
      };
    })
