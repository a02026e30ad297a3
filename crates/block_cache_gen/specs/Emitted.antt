-- For proofs, and for the functions that branch_padding and code_gen build on: what a call appends to the code
-- and its notes.
use Rattle.std.specs.Prelude.{◌≡◌, ℕ, ◌+◌, List, [], ◌++◌, length, ℤ, Option, Some, None, false}
use Rattle.gr_word.specs.declared.operations.Op.{Op}
use Rattle.strength_reduction.specs.Steps.{Step}
use Rattle.lt_isa.specs.declared.instructions.Instr.{Instr}
use Rattle.lt_isa.specs.declared.symbols.Note.{Note}
use Rattle.src_tree.specs.Trees.{Tree, Test, Statement}
use Rattle.block_cache_gen.specs.declared.frames.CodeBuf.{CodeBuf}
use Rattle.block_cache_gen.specs.declared.frames.Mode.{Mode}
use Rattle.block_cache_gen.specs.declared.frames.Mode.TheVariants.{Public, Real, Mirrored}
use Rattle.block_cache_gen.specs.declared.indexes.Numbering.TheVariants.{Reduced}
use Rattle.block_cache_gen.specs.Homes.{Home, Setting}
use Rattle.block_cache_gen.specs.Codes.{access_by, load_code, skips, operand, operand_part, operand_register, operation_code, steps_at, expr_code, guard_code, set_code, straight_code, index_operand, indexed_code, found_by, fixed_index, numbering}
use Rattle.block_cache_gen.specs.Notes.{operation_notes, expr_notes, guard_notes, set_notes, straight_notes, index_notes, loaded_notes, load_notes}
pub use Rattle.block_cache_gen.specs.Behind.{CodeGrows}

-- code was appended, and notes that go by the place where that code begins
pub record Appended (before after : CodeBuf) (more : List Instr) (noted : ℕ → List Note) : Type 0 where
  pub code : after.code.items ≡ before.code.items ++ more
  pub notes : after.notes.items ≡ before.notes.items ++ noted (length before.code.items)

abbrev pub no_notes : ℕ → List Note
no_notes place = []

-- secret code has no notes
abbrev pub notes_in : Mode → List Note → List Note
notes_in Public notes = notes
notes_in Real notes = []
notes_in Mirrored notes = []

-- the notes of an access whose code begins at a place
abbrev pub access_notes : Setting → Home → (mask to : ℕ) → Tree → ℕ → List Note
access_notes f h mask to i place =
    index_notes (fixed_index h i)
    (operand_part (index_operand f (numbering f Public h i) h i) (expr_notes f mask to place i))
    ++ load_notes (numbering f Public h i) (fixed_index h i) f h mask to
    (place + length (indexed_code f (numbering f Public h i) Public h to i (expr_code f Public to i)))

-- what is appended for the part of an operation that follows its left side
abbrev pub OperationBy : Setting → Mode → (mask to left : ℕ) → Op → Tree → Option (List Step) → CodeBuf → CodeBuf
    → Type 0
OperationBy f mode mask to left op right found before after =
    Appended before after
    (operation_code op to left (operand_register (operand f right) (to + 1)) found
    (operand_part (operand f right) (expr_code f mode (to + 1) right)))
    (λ place. notes_in mode
    (operation_notes found (operand_part (operand f right) (expr_notes f mask (to + 1) place right))))

abbrev pub EmitsOperation : Setting → Mode → (mask to left : ℕ) → Op → Tree → CodeBuf → CodeBuf → Type 0
EmitsOperation f mode mask to left op right before after =
    OperationBy f mode mask to left op right (steps_at f op right) before after

-- what is appended for an operand, an expression, an access, a guard and an assignment
abbrev pub EmitsOperand : Setting → Mode → (mask to : ℕ) → Option ℕ → Tree → CodeBuf → CodeBuf → Type 0
EmitsOperand f mode mask to q e before after =
    Appended before after (operand_part q (expr_code f mode to e))
    (λ place. notes_in mode (operand_part q (expr_notes f mask to place e)))

abbrev pub EmitsExpr : Setting → Mode → (mask to : ℕ) → Tree → CodeBuf → CodeBuf → Type 0
EmitsExpr f mode mask to e before after =
    Appended before after (expr_code f mode to e) (λ place. notes_in mode (expr_notes f mask to place e))

abbrev pub EmitsAccess : Setting → Mode → Home → (mask to : ℕ) → Tree → CodeBuf → CodeBuf → Type 0
EmitsAccess f mode h mask to i before after =
    Appended before after (indexed_code f (numbering f mode h i) mode h to i (expr_code f mode to i))
    (λ place. notes_in mode (access_notes f h mask to i place))

-- what the load of an access appends
abbrev pub EmitsLoad : Setting → Mode → Home → (mask to : ℕ) → CodeBuf → CodeBuf → Type 0
EmitsLoad f mode h mask to a b =
    Appended a b (load_code (skips mode h) h to)
    (λ place. notes_in mode
    (loaded_notes false Reduced None f h mask to (place + length (load_code (skips Public h) h to))))

-- the code of an access by a number
abbrev pub EmitsFixed : Setting → Mode → Home → (mask to : ℕ) → ℤ → CodeBuf → CodeBuf → Type 0
EmitsFixed f mode h mask to z a c =
    Appended a c (access_by h.resident Reduced f mode h to to (Some z) [])
    (λ place. notes_in mode
    (loaded_notes h.resident Reduced (Some z) f h mask to
    (place + length (access_by h.resident Reduced f Public h to to (Some z) []))))

-- the part of an access that follows the code of its index, where the index is no number that needs no code
abbrev pub EmitsFound : Setting → Mode → Home → (mask to : ℕ) → Tree → CodeBuf → CodeBuf → Type 0
EmitsFound f mode h mask to i before after =
    let from = operand_register (index_operand f (numbering f mode h i) h i) to in
    Appended before after (found_by h.resident (numbering f mode h i) f mode h to from)
    (λ place. notes_in mode
    (loaded_notes h.resident (numbering f mode h i) None f h mask to
    (place + length (found_by h.resident (numbering f mode h i) f Public h to from))))

abbrev pub EmitsGuard : Setting → Mode → ℕ → Test → CodeBuf → CodeBuf → Type 0
EmitsGuard f mode to t before after =
    Appended before after (guard_code f mode to t) (λ place. notes_in mode (guard_notes f to place t))

abbrev pub EmitsStraight : Setting → Mode → ℕ → Tree → CodeBuf → CodeBuf → Type 0
EmitsStraight f mode to e before after =
    Appended before after (straight_code f mode to e) (λ place. notes_in mode (straight_notes f place e))

abbrev pub EmitsSet : Setting → Mode → Statement → CodeBuf → CodeBuf → Type 0
EmitsSet f mode s before after =
    Appended before after (set_code f mode s) (λ place. notes_in mode (set_notes f place s))
