-- For proofs, and for the functions that branch_padding and code_gen build on: the notes of the public code that is
-- made of expressions, guards and assignments. A note follows each load that may be skipped, and each remainder of an
-- index that may be skipped. It claims what a mask says of the registers below those of the access, and the bank of
-- each slot that the program uses.
use Rattle.std.specs.Prelude.{ℕ, zero, suc, ◌+◌, ◌-◌, ◌*◌, ◌%◌, ◌^◌, bit_and, ℤ, Bool, true, false, ◌==◌, if◌then◌else◌, List, [], ◌∷◌, ◌++◌, length, Option, Some, None}
use Rattle.std.specs.List.{list_any}
use Rattle.std.specs.Int.{w32, bit_not}
use Rattle.gr_word.specs.declared.variables.Label.{Label}
use Rattle.gr_word.specs.declared.variables.Label.TheVariants.{Public, Secret}
use Rattle.lt_isa.specs.declared.instructions.Instr.{Instr}
use Rattle.lt_isa.specs.declared.symbols.Note.{Note}
use Rattle.lt_isa.specs.Ranges.{any_bank}
use Rattle.held_registers.specs.Held.{held_at}
use Rattle.src_tree.specs.declared.trees.Decl.{Decl}
use Rattle.src_tree.specs.Contexts.{context_of}
use Rattle.src_tree.specs.Labels.{label_of}
use Rattle.src_tree.specs.Trees.{Tree, Number, Variable, Element, Operation, Test, Statement, SetVariable, SetElement, Choice, Loop}
use Rattle.block_cache_gen.specs.declared.indexes.Numbering.{Numbering}
use Rattle.block_cache_gen.specs.declared.indexes.Numbering.TheVariants.{Compared, Reduced, Within}
use Rattle.block_cache_gen.specs.Homes.{Home, Pin, Setting, pin_at, home_of, Held, label_by}
use Rattle.block_cache_gen.specs.Codes.{is_cached, fixed_index, numbering, offset_code, shift_code, load_code, operand, operand_part, left_operand, index_operand, steps_at, straight, expr_code, indexed_code}
use Rattle.strength_reduction.specs.Steps.{Step}
use Rattle.block_cache_gen.specs.declared.frames.Mode.TheVariants as mode

-- every register may hold a secret
abbrev pub all_marked : ℕ
all_marked = 2 ^ 32 - 1

-- the mask without register r
abbrev pub unmarked : ℕ → ℕ → ℕ
unmarked mask r = bit_and mask (bit_not w32 (1 * 2 ^ r % 2 ^ 32))

-- the same where the register holds the value of an expression that is public
abbrev pub marked_by : Label → ℕ → ℕ → ℕ
marked_by Public mask r = unmarked mask r
marked_by Secret mask r = mask

-- the same of an operand, which may be in a register that holds it for the whole run
abbrev pub operand_mask : Option ℕ → Label → ℕ → ℕ → ℕ
operand_mask (Some q) l mask r = mask
operand_mask None l mask r = marked_by l mask r

-- what a note between statements says: every register may hold a secret, but those that hold something public for the
-- whole run
abbrev pub is_public : Option Label → Bool
is_public None = false
is_public (Some Public) = true
is_public (Some Secret) = false

unfoldable pub mask_to : List Decl → List Held → ℕ → ℕ
mask_to decls held zero = all_marked
mask_to decls held (suc r) =
    if is_public (label_by decls (held_at held r)) then unmarked (mask_to decls held r) r else mask_to decls held r

abbrev pub base_mask : Setting → ℕ
base_mask f = mask_to f.decls f.held 32

-- A slot serves a variable. A pinned slot is claimed to have the bank of its block; of the others, slots 2 to 5 the bank
-- that they serve if a variable uses them. Nothing is claimed of the rest.
abbrev pub is_used : Setting → ℕ → Bool
is_used f slot = list_any (λ h. h.slot == slot) f.homes

abbrev pub claimed_where_used : Setting → (slot bank : ℕ) → ℕ
claimed_where_used f slot bank = if is_used f slot then bank else any_bank

-- the bank of a pin, and another claim if there is no pin
abbrev pub claim_by : Option Pin → ℕ → ℕ
claim_by None other = other
claim_by (Some p) other = p.bank

abbrev pub slot_claims : Setting → List ℕ
slot_claims f =
    claim_by (pin_at f 0) any_bank
    ∷ claim_by (pin_at f 1) any_bank
    ∷ claim_by (pin_at f 2) (claimed_where_used f 2 0)
    ∷ claim_by (pin_at f 3) (claimed_where_used f 3 0)
    ∷ claim_by (pin_at f 4) (claimed_where_used f 4 1)
    ∷ claim_by (pin_at f 5) (claimed_where_used f 5 1)
    ∷ any_bank
    ∷ claim_by (pin_at f 7) any_bank
    ∷ []

-- the note at a place that claims what a mask says of registers
abbrev pub note_of : Setting → ℕ → ℕ → Note
note_of f mask place = record { pc = place; secrets = mask; slots = slot_claims f }

-- Behind the load of an access: the number of the word, that of its block and that of the slot's block are public.
abbrev pub access_mask : ℕ → ℕ → ℕ
access_mask mask to = unmarked (unmarked (unmarked mask to) (to + 1)) (to + 2)

-- The note that follows a comparison of an index with a length: the number of the word is public.
abbrev pub compared_notes : Numbering → Option ℤ → Setting → (mask to place : ℕ) → List Note
compared_notes n (Some z) f mask to place = []
compared_notes Compared None f mask to place = note_of f (unmarked mask to) place ∷ []
compared_notes Reduced None f mask to place = []
compared_notes Within None f mask to place = []

-- the code of public code that follows the number of a word of an array that isn't resident
abbrev pub loading_code : Setting → Home → ℕ → List Instr
loading_code f h to = shift_code f h to ++ load_code (is_cached h) h to

-- The notes of an access apart from those of its index, by the place after its code: the note that follows a
-- comparison, and if the array isn't resident the one that follows the load.
abbrev pub loaded_notes : (resident : Bool) → Numbering → Option ℤ → Setting → Home → (mask to behind : ℕ) → List Note
loaded_notes true n fixed f h mask to behind =
    compared_notes n fixed f mask to (behind - length (offset_code f h to to))
loaded_notes false n fixed f h mask to behind =
    compared_notes n fixed f mask to (behind - length (loading_code f h to))
    ++ (if is_cached h then note_of f (access_mask mask to) behind ∷ [] else [])

abbrev pub load_notes : Numbering → Option ℤ → Setting → Home → (mask to behind : ℕ) → List Note
load_notes n fixed f h mask to behind = loaded_notes h.resident n fixed f h mask to behind

abbrev pub index_notes : Option ℤ → List Note → List Note
index_notes (Some z) notes = []
index_notes None notes = notes

-- the notes of the right side of an operation, none if steps replace the operation
abbrev pub operation_notes : Option (List Step) → List Note → List Note
operation_notes None notes = notes
operation_notes (Some steps) notes = []

-- the notes of an expression whose code stands from a place on
abbrev pub expr_notes : Setting → (mask to place : ℕ) → Tree → List Note
expr_notes f mask to place (Number z) = []
expr_notes f mask to place (Variable x) = []
expr_notes f mask to place (Element x i) =
    index_notes (fixed_index (home_of f x) i)
    (operand_part (index_operand f (numbering f mode.Public (home_of f x) i) (home_of f x) i) (expr_notes f mask to place i))
    ++ load_notes (numbering f mode.Public (home_of f x) i) (fixed_index (home_of f x) i) f (home_of f x) mask to
    (place + length (indexed_code f (numbering f mode.Public (home_of f x) i) mode.Public (home_of f x) to i
    (expr_code f mode.Public to i)))
expr_notes f mask to place (Operation op a b) =
    operand_part (left_operand f op a b) (expr_notes f mask to place a)
    ++ operation_notes (steps_at f op b)
    (operand_part (operand f b)
    (expr_notes f (operand_mask (left_operand f op a b) (label_of (context_of f.decls) a) mask to) (to + 1)
    (place + length (operand_part (left_operand f op a b) (expr_code f mode.Public to a)))
    b))

-- the notes of a guard
abbrev pub guard_notes : Setting → (to place : ℕ) → Test → List Note
guard_notes f to place t =
    expr_notes f (base_mask f) to place t.left
    ++ expr_notes f (marked_by (label_of (context_of f.decls) t.left) (base_mask f) to) (to + 1)
    (place + length (expr_code f mode.Public to t.left))
    t.right

-- the notes of an operation whose last instruction leaves its result in the register of a scalar
abbrev pub straight_notes : Setting → (place : ℕ) → Tree → List Note
straight_notes f place (Operation op a b) =
    operand_part (operand f a) (expr_notes f (base_mask f) 0 place a)
    ++ operand_part (operand f b)
    (expr_notes f (operand_mask (operand f a) (label_of (context_of f.decls) a) (base_mask f) 0) 1
    (place + length (operand_part (operand f a) (expr_code f mode.Public 0 a)))
    b)
straight_notes f place other = []

abbrev pub scalar_set_notes : Option ℕ → Setting → (place : ℕ) → Tree → List Note
scalar_set_notes None f place e = operand_part (operand f e) (expr_notes f (base_mask f) 0 place e)
scalar_set_notes (Some r) f place e = straight_notes f place e

-- the notes of an assignment: the index of an element stands behind its value
abbrev pub set_notes : Setting → ℕ → Statement → List Note
set_notes f place (SetVariable x e) = scalar_set_notes (straight f x e) f place e
set_notes f place (SetElement x i e) =
    operand_part (operand f e) (expr_notes f (base_mask f) 0 place e)
    ++ (index_notes (fixed_index (home_of f x) i)
    (operand_part (index_operand f (numbering f mode.Public (home_of f x) i) (home_of f x) i)
    (expr_notes f (operand_mask (operand f e) (label_of (context_of f.decls) e) (base_mask f) 0) 1
    (place + length (operand_part (operand f e) (expr_code f mode.Public 0 e))) i))
    ++ load_notes (numbering f mode.Public (home_of f x) i) (fixed_index (home_of f x) i) f (home_of f x)
    (operand_mask (operand f e) (label_of (context_of f.decls) e) (base_mask f) 0) 1
    ((place + length (operand_part (operand f e) (expr_code f mode.Public 0 e)))
    + length (indexed_code f (numbering f mode.Public (home_of f x) i) mode.Public (home_of f x) 1 i
    (expr_code f mode.Public 1 i))))
set_notes f place (Choice t a b) = []
set_notes f place (Loop t a) = []
