-- The public code of an operand is passed, at any place: none if a register holds the operand for the whole run, or else
-- that of an expression.
use Rattle.std.proofs.Common.{◌≡◌, ℕ, ◌+◌, ◌<◌, ◌≤◌, false, List, [], ◌∷◌, ◌++◌, length, Option, Some, None, refl, ◌∙◌, subst, arith}
use Rattle.gr_word.specs.declared.variables.Label.{Label}
use Rattle.lt_isa.specs.declared.symbols.Note.{Note}
use Rattle.lt_isa.specs.declared.instructions.Instr.{Instr}
use Rattle.lt_isa.specs.Prelude.{Parts}
use Rattle.src_tree.specs.Prelude.{context_of, height_of, label_of, Tree, TypedTree}
use Rattle.trace_patterns.specs.Prelude.{Known, is_marked, claimed_at}
use Rattle.stretches.specs.Prelude.{StandsAt, HoldsAt, AsItComes, Passes, Done, NotesBetween}
use Rattle.stretches.proofs.Passed.{GoesOn, passes-noted, notes-before, no_note-there, LieBetween}
use Rattle.block_cache_gen.specs.declared.frames.Mode.TheVariants.{Public}
use Rattle.block_cache_gen.specs.Prelude.{Setting, HasHomes, operand_part, operand_register, expr_code, marked_by, operand_mask, expr_notes, Carries, HasLabel, StandsNoted, first_kept, room_of}
use Rattle.block_cache_gen.proofs.BaseMarks.{unmarked-same, unmarked-other}
use Rattle.block_cache_gen.proofs.HeldOperands.{IsOperandOf}
use Rattle.block_cache_gen.proofs.KeptBelow.{LeavesPublic, KeptBelow, PassedBelow}
use Rattle.block_cache_gen.proofs.KeptRegisters.{kept-itself}
use Rattle.block_cache_gen.proofs.NoteClaims.{leaves-without, leaves-higher}
use Rattle.block_cache_gen.proofs.NotesOfCode.{expression-longer, expression-lies}
use Rattle.block_cache_gen.proofs.OperandLabels.{operand-label}
use Rattle.gr_word.specs.declared.variables.Label.TheVariants as label

-- what passing the code of an expression means, at any place
abbrev pub ExprPasses : Parts → Setting → Tree → Type 0
ExprPasses o f e =
    (mask to p : ℕ) (k holds : Known) → to + height_of e ≤ room_of f
    → StandsNoted o p (expr_code f Public to e) (expr_notes f mask to p e) → HoldsAt o p k holds → Carries f holds
    → LeavesPublic f mask to holds → PassedBelow o f mask to p e k holds

-- what is known where a setting is carried keeps itself
pub kept-here : (f : Setting) (mask to : ℕ) (k : Known) → to < first_kept f → Carries f k → LeavesPublic f mask to k
    → KeptBelow f mask to k k
kept-here f mask to k low carries leaves =
    kept-itself f mask to k carries (λ r lt unmarks. let h = leaves.lower r (omega arith) unmarks in h.1)

-- the mask after an expression
marks_before : (l : Label) (mask to r : ℕ) → to < 32 → r < to → is_marked mask r ≡ false
    → is_marked (marked_by l mask to) r ≡ false
marks_before label.Public mask to r low lt unmarks =
    unmarked-other mask to r low (omega arith) (λ e. absurd (omega arith)) ∙ unmarks
marks_before label.Secret mask to r low lt unmarks = unmarks

-- after a value the mask of its label says which registers are public
pub leaves-labelled : (f : Setting) (l : Label) (mask to : ℕ) (k : Known) → to < first_kept f
    → LeavesPublic f mask to k → HasLabel k to l
    → LeavesPublic f (marked_by l mask to) (to + 1) k
leaves-labelled f label.Public mask to k low leaves labelled =
    leaves-without f mask to to (to + 1) k leaves (omega arith) (omega arith) low labelled
leaves-labelled f label.Secret mask to k low leaves labelled = leaves-higher f mask to (to + 1) k (omega arith) leaves

-- a register keeps its label where the mask says it
pub label-kept : (f : Setting) (l : Label) (mask to more : ℕ) (k m : Known) → to < 32 → to < more → HasLabel k to l
    → KeptBelow f (marked_by l mask to) more k m → HasLabel m to l
label-kept f label.Public mask to more k m low lt labelled kept = kept.publics to lt (unmarked-same mask to low)
label-kept f label.Secret mask to more k m low lt labelled kept = kept.secrets to lt labelled

-- the same after an operand
pub leaves-operand : (f : Setting) (q : Option ℕ) (l : Label) (mask to : ℕ) (k : Known) → to < first_kept f
    → LeavesPublic f mask to k → HasLabel k (operand_register q to) l
    → LeavesPublic f (operand_mask q l mask to) (to + 1) k
leaves-operand f None l mask to k low leaves labelled = leaves-labelled f l mask to k low leaves labelled
leaves-operand f (Some r) l mask to k low leaves labelled = leaves-higher f mask to (to + 1) k (omega arith) leaves

-- what is kept by one stretch and then by another with higher registers
pub kept-then : (f : Setting) (q : Option ℕ) (l : Label) (mask to : ℕ) (k m n : Known) → to < 32
    → KeptBelow f mask to k m → KeptBelow f (operand_mask q l mask to) (to + 1) m n → KeptBelow f mask to k n
kept-then f q l mask to k m n low first second = record {
  carries = second.carries;
  publics = λ r lt unmarks. second.publics r (omega arith) (before q r lt unmarks);
  secrets = λ r lt secret. second.secrets r (omega arith) (first.secrets r lt secret);
}
  where
    before : (q : Option ℕ) (r : ℕ) → r < to → is_marked mask r ≡ false → is_marked (operand_mask q l mask to) r ≡ false
    before None r lt unmarks = marks_before l mask to r low lt unmarks
    before (Some s) r lt unmarks = unmarks

-- code that isn't empty is passed where this holds at its first place
pub passes-here : (o : Parts) (p : ℕ) (code : List Instr) (k holds last : Known) → HoldsAt o p k holds
    → GoesOn o p code holds last → StandsAt o p code → 1 ≤ length code
    → ((r : ℕ) → p < r → r < p + length code → claimed_at o r ≡ None) → p + length code < length o.code
    → Passes o p k (p + length code) last
passes-here o p [] k holds last here goes stands some quiet inside = absurd (omega arith)
passes-here o p (i ∷ code) k holds last here goes stands some quiet inside =
    passes-noted o p i code k holds last here goes stands quiet inside

-- The code of an operand at a place is passed up to another: registers below `to` are kept, and the operand's register
-- has its label.
pub record OperandPassed (o : Parts) (f : Setting) (mask to p : ℕ) (k holds : Known) (q from : ℕ)
    (l : Label) : Type 0 where
  pub last : Known
  pub held : Known
  pub passes : Passes o p k q last
  pub here : HoldsAt o q last held
  pub kept : KeptBelow f mask to holds held
  pub labelled : HasLabel held from l

module _ (o : Parts) (f : Setting) (homes : HasHomes o f) (e : Tree) (typed : TypedTree (context_of f.decls) e)
    (q : Option ℕ) (is : IsOperandOf f e q) where
  -- a register that holds an operand for the whole run keeps the operand's label
  pub operand-later : (mask to more : ℕ) (k m : Known) → to < 32 → to < more
      → HasLabel k (operand_register q to) (label_of (context_of f.decls) e)
      → KeptBelow f (operand_mask q (label_of (context_of f.decls) e) mask to) more k m
      → HasLabel m (operand_register q to) (label_of (context_of f.decls) e)
  operand-later mask to more k m low lt labelled kept = by q is labelled kept
    where
      by : (q : Option ℕ) → IsOperandOf f e q → HasLabel k (operand_register q to) (label_of (context_of f.decls) e)
          → KeptBelow f (operand_mask q (label_of (context_of f.decls) e) mask to) more k m
          → HasLabel m (operand_register q to) (label_of (context_of f.decls) e)
      by None is labelled kept =
          label-kept f (label_of (context_of f.decls) e) mask to more k m low lt labelled kept
      by (Some r) is labelled kept =
          let carries = kept.carries in carries.held r _ (operand-label f homes.held e typed r (is r refl))

  -- the code of an operand is passed, and other notes may follow its own
  pub operand-passes : ExprPasses o f e → (mask to p : ℕ) (k holds : Known) → to + height_of e ≤ room_of f
      → to < first_kept f
      → (whole : ℕ) (later : List Note) → StandsAt o p (operand_part q (expr_code f Public to e))
      → NotesBetween o p whole (operand_part q (expr_notes f mask to p e) ++ later)
      → LieBetween (p + length (operand_part q (expr_code f Public to e))) whole later
      → p + length (operand_part q (expr_code f Public to e)) < whole
      → p + length (operand_part q (expr_code f Public to e)) < length o.code
      → HoldsAt o p k holds → Carries f holds → LeavesPublic f mask to holds
      → OperandPassed o f mask to p k holds (p + length (operand_part q (expr_code f Public to e)))
      (operand_register q to) (label_of (context_of f.decls) e)
  operand-passes passes mask to p k holds high low whole later stands between lie_later within inside here carries
      leaves =
      by q is stands between lie_later within inside
    where
      by : (q : Option ℕ) → IsOperandOf f e q → StandsAt o p (operand_part q (expr_code f Public to e))
          → NotesBetween o p whole (operand_part q (expr_notes f mask to p e) ++ later)
          → LieBetween (p + length (operand_part q (expr_code f Public to e))) whole later
          → p + length (operand_part q (expr_code f Public to e)) < whole
          → p + length (operand_part q (expr_code f Public to e)) < length o.code
          → OperandPassed o f mask to p k holds (p + length (operand_part q (expr_code f Public to e)))
          (operand_register q to) (label_of (context_of f.decls) e)
      by (Some r) is stands between lie_later within inside =
          let empty : p ≡ p + 0 = omega arith in
          subst (λ (n : ℕ). OperandPassed o f mask to p k holds n r (label_of (context_of f.decls) e)) empty
          (record {
            last = k;
            held = holds;
            passes = Done p k;
            here = here;
            kept = kept-here f mask to holds low carries leaves;
            labelled = carries.held r _ (operand-label f homes.held e typed r (is r refl));
          })
      by None is stands between lie_later within inside =
          let mid = p + length (expr_code f Public to e) in
          let some = expression-longer f e to in
          let before = expr_notes f mask to p e in
          let lie : LieBetween p mid before = expression-lies f e mask to p in
          let l = passes mask to p k holds high
          (record {
            code_stands = stands;
            noted = notes-before o p mid whole before later lie lie_later between (omega arith);
            behind = inside;
          }) here carries leaves in
          record {
            last = l.last;
            held = l.last;
            passes = l.passes;
            here = AsItComes l.last
                (no_note-there o p mid whole before later lie lie_later between (omega arith) within);
            kept = l.kept;
            labelled = l.labelled;
          }
