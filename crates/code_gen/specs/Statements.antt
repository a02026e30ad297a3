-- For the proofs and for private clauses only: the instructions and the notes that are made of statements in public
-- code. Branches on secrets are padded; what is made of one is a parameter. Each statement's code is made for what is
-- known at its place, which `f` has at the beginning of the statements.
use Rattle.std.specs.Prelude.{ℕ, ◌+◌, ◌-◌, Bool, true, false, pos, negsuc, List, [], ◌∷◌, ◌++◌, length}
use Rattle.gr_word.specs.declared.operations.Cmp.{Cmp}
use Rattle.gr_word.specs.declared.operations.Cmp.TheVariants.{Eq, Ne, Lt, Le, Gt, Ge}
use Rattle.gr_word.specs.declared.variables.Label.{Label}
use Rattle.lt_isa.specs.declared.symbols.Note.{Note}
use Rattle.lt_isa.specs.declared.instructions.Instr.{Instr}
use Rattle.lt_isa.specs.declared.instructions.Instr.TheVariants.{Jmp, Br}
use Rattle.src_tree.specs.Trees.{Test, Statement, SetVariable, SetElement, Choice, Loop, Block, Nothing, Then}
use Rattle.src_tree.specs.declared.trees.Decl.{Decl}
use Rattle.src_tree.specs.Contexts.{context_of}
use Rattle.src_tree.specs.Labels.{label_of_test}
use Rattle.block_cache_gen.specs.declared.frames.Mode.TheVariants.{Public}
use Rattle.block_cache_gen.specs.Homes.{Setting}
use Rattle.block_cache_gen.specs.Codes.{guard_code, set_code}
use Rattle.block_cache_gen.specs.Notes.{base_mask, note_of, guard_notes, set_notes}
use Rattle.branch_padding.specs.AfterStatements.{after, behind_loop, within_loop}
use Rattle.gr_word.specs.declared.variables.Label.TheVariants as label

-- the code of a branch on a secret
abbrev pub Padding : Type 0
Padding = Setting → Test → Block → Block → List Instr

-- the comparison that holds exactly if another doesn't
abbrev pub opposite : Cmp → Cmp
opposite Eq = Ne
opposite Ne = Eq
opposite Lt = Ge
opposite Le = Gt
opposite Gt = Le
opposite Ge = Lt

-- A choice: if the guard fails, the branch jumps past the first block; if there is a second, a jump after the first
-- jumps past it.
abbrev pub second_code : List Instr → List Instr
second_code [] = []
second_code (i ∷ code) = Jmp (pos (length (i ∷ code) + 1)) ∷ i ∷ code

-- how many places there are from the branch to the second block, or to the end if it is empty
abbrev pub places_over : List Instr → List Instr → ℕ
places_over first [] = length first + 1
places_over first (i ∷ code) = length first + 2

abbrev pub choice_code : List Instr → Cmp → List Instr → List Instr → List Instr
choice_code guard cmp first second =
    guard ++ (Br (opposite cmp) 0 1 (pos (places_over first second)) ∷ (first ++ second_code second))

-- A loop: a jump leads to the guard, which follows the body; if the guard holds, the branch leads back to the body.
abbrev pub loop_code : List Instr → Cmp → List Instr → List Instr
loop_code guard cmp body =
    Jmp (pos (length body + 1))
    ∷ (body ++ (guard ++ Br cmp 0 1 (negsuc ((length body + length guard) - 1)) ∷ []))

-- a choice by the label of its guard
abbrev pub choice_by : Label → List Instr → List Instr → List Instr
choice_by label.Public public padded = public
choice_by label.Secret public padded = padded

abbrev mutual
  pub statement_code : Setting → Padding → Statement → List Instr
  statement_code f padded (SetVariable x e) = set_code f Public (SetVariable x e)
  statement_code f padded (SetElement x i e) = set_code f Public (SetElement x i e)
  statement_code f padded (Choice t a b) =
      choice_by (label_of_test (context_of f.decls) t)
      (choice_code (guard_code f Public 0 t) t.cmp (block_code f padded a) (block_code f padded b)) (padded f t a b)
  statement_code f padded (Loop t a) =
      loop_code (guard_code (behind_loop f a) Public 0 t) t.cmp (block_code (within_loop f t a) padded a)

  pub block_code : Setting → Padding → Block → List Instr
  block_code f padded Nothing = []
  block_code f padded (Then s rest) = statement_code f padded s ++ block_code (after f s) padded rest

-- a note to which public code may jump: every register may hold a secret, but those that hold something public for the
-- whole run
abbrev pub head_note : Setting → ℕ → Note
head_note f place = note_of f (base_mask f) place

-- there is a note just after a statement, or a block, since public code jumps there
abbrev pub is_public : Label → Bool
is_public label.Public = true
is_public label.Secret = false

abbrev pub ends_noted : List Decl → Statement → Bool
ends_noted decls (Choice t a b) = is_public (label_of_test (context_of decls) t)
ends_noted decls other = false

abbrev pub block_ends_noted : List Decl → Block → Bool
block_ends_noted decls Nothing = false
block_ends_noted decls (Then s Nothing) = ends_noted decls s
block_ends_noted decls (Then s (Then t rest)) = block_ends_noted decls (Then t rest)

-- a head note at a place that has none yet
abbrev pub head_unless : Bool → Setting → ℕ → List Note
head_unless true f place = []
head_unless false f place = head_note f place ∷ []

-- the notes of a choice whose blocks have notes: at the second block, and at the end
abbrev pub choice_notes : Setting → (place : ℕ) → List Instr → List Instr → List Note → List Note
    → (Bool × Bool) → List Note
choice_notes f place first [] notes others ends = notes ++ head_unless ends.0 f (place + length first)
choice_notes f place first (i ∷ code) notes others ends =
    notes
    ++ (head_note f (place + (length first + 1))
    ∷ (others ++ head_unless ends.1 f (place + (length first + (1 + length (i ∷ code))))))

-- the notes of a loop: at its body, and at its guard, which is one place where the body is empty
abbrev pub guard_note : Setting → List Instr → Bool → ℕ → List Note
guard_note f [] ends place = []
guard_note f (i ∷ code) ends place = head_unless ends f place

-- the guard of a branch on a secret has its notes, and what is padded has none
abbrev pub notes_by : Label → List Note → List Note
notes_by label.Public notes = notes
notes_by label.Secret notes = []

-- the notes of a statement whose code begins at a place
abbrev mutual
  pub statement_notes : Setting → Padding → ℕ → Statement → List Note
  statement_notes f padded place (SetVariable x e) = set_notes f place (SetVariable x e)
  statement_notes f padded place (SetElement x i e) = set_notes f place (SetElement x i e)
  statement_notes f padded place (Choice t a b) =
      guard_notes f 0 place t
      ++ notes_by (label_of_test (context_of f.decls) t)
      (choice_notes f (place + (length (guard_code f Public 0 t) + 1)) (block_code f padded a)
      (block_code f padded b)
      (block_notes f padded (place + (length (guard_code f Public 0 t) + 1)) a)
      (block_notes f padded
      (place + (length (guard_code f Public 0 t) + (1 + (length (block_code f padded a) + 1))))
      b)
      (block_ends_noted f.decls a, block_ends_noted f.decls b))
  statement_notes f padded place (Loop t a) =
      head_note f (place + 1)
      ∷ (block_notes (within_loop f t a) padded (place + 1) a
      ++ (guard_note f (block_code (within_loop f t a) padded a) (block_ends_noted f.decls a)
      (place + (1 + length (block_code (within_loop f t a) padded a)))
      ++ guard_notes (behind_loop f a) 0 (place + (1 + length (block_code (within_loop f t a) padded a))) t))

  pub block_notes : Setting → Padding → ℕ → Block → List Note
  block_notes f padded place Nothing = []
  block_notes f padded place (Then s rest) =
      statement_notes f padded place s
      ++ block_notes (after f s) padded (place + length (statement_code f padded s)) rest
