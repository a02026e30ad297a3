-- For proofs, and for the functions that branch_padding and code_gen build on: the instructions that are made of
-- expressions, guards and assignments. Which instructions these are is free; what they do and what the check sees of
-- them is said by the clauses of the calls over a frame.
use Rattle.std.specs.Prelude.{ℕ, ◌+◌, ◌-◌, ◌/◌, ◌%◌, ◌^◌, Bool, true, false, not, ◌&&◌, ◌==◌, nat_lt, is_some, if◌then◌else◌, ℤ, pos, negsuc, ◌+ℤ◌, List, [], ◌∷◌, ◌++◌, Option, Some, None}
use Rattle.std.specs.List.{range_with_len, list_any}
use Rattle.gr_word.specs.Words.{unsigned_of}
use Rattle.gr_word.specs.declared.operations.Op.{Op}
use Rattle.gr_word.specs.declared.operations.Op.TheVariants.{Add, Mul, Div, Rem, Remu, And, Shr}
use Rattle.gr_word.specs.declared.operations.Cmp.TheVariants.{Eq, Lt}
use Rattle.lt_isa.specs.declared.instructions.Instr.{Instr}
use Rattle.lt_isa.specs.declared.instructions.Instr.TheVariants.{Li, Alu, Ldb, Stb, Idb, Ldw, Stw, Br}
use Rattle.strength_reduction.specs.Reduced.{steps_by_number}
use Rattle.strength_reduction.specs.Steps.{Step, code_of}
use Rattle.src_tree.specs.Contexts.{context_of}
use Rattle.src_tree.specs.Labels.{label_of, secret_label}
use Rattle.src_tree.specs.Trees.{Tree, Number, Variable, Element, Operation, Test, Statement, SetVariable, SetElement, Choice, Loop}
use Rattle.scalar_ranges.specs.Known.{is_within}
use Rattle.block_cache_gen.specs.declared.frames.Mode.{Mode}
use Rattle.block_cache_gen.specs.declared.frames.Mode.TheVariants.{Public, Real, Mirrored}
use Rattle.block_cache_gen.specs.declared.indexes.Numbering.{Numbering}
use Rattle.block_cache_gen.specs.declared.indexes.Numbering.TheVariants.{Compared, Reduced, Within}
use Rattle.gr_word.specs.declared.variables.Label.{Label}
use Rattle.held_registers.specs.Held.{secret_zero, public_zero, register_of_number}
use Rattle.word_selection.specs.declared.effects.Effect.{Effect}
use Rattle.word_selection.specs.declared.effects.Effect.TheVariants.{Stores, Keeps}
use Rattle.word_selection.specs.Selection.{selected_read, selected_write}
use Rattle.block_cache_gen.specs.Homes.{Home, Setting, home_of, words_a_block, slots_of_home, slot_of_word, register_for, further_slots}
use Rattle.gr_word.specs.declared.variables.Label.TheVariants as label

-- Public code may skip the load of a block of plain or encrypted memory.
abbrev pub may_skip_loads : Mode → Bool
may_skip_loads Public = true
may_skip_loads Real = false
may_skip_loads Mirrored = false

abbrev pub is_cached : Home → Bool
is_cached h = nat_lt h.bank 2

-- a length of plain or encrypted memory that is a power of two, so that an index is taken modulo it by a mask
unfoldable pub is_power : ℕ → Bool
is_power n = list_any (λ k. 2 ^ k == n) (range_with_len 0 21)

abbrev pub is_masked : Home → Bool
is_masked h = is_cached h && is_power h.length

-- an index that is a number, of an array of plain or encrypted memory
abbrev pub literal : Tree → Option ℤ
literal (Number z) = Some z
literal _ = None

abbrev pub fixed_index : Home → Tree → Option ℤ
fixed_index h i = if is_cached h then literal i else None

-- A value of a label is copied by a sum with the zero that has the label, so that the copy has it too.
abbrev pub zero_of : Label → ℕ
zero_of label.Public = public_zero
zero_of label.Secret = secret_zero

abbrev pub copy_code : Label → (to from : ℕ) → List Instr
copy_code l to from = Alu Add to from (zero_of l) ∷ []

-- a scalar's word in register `to`, if a register holds it for the whole run, or its slot
abbrev pub scalar_code : Option ℕ → Home → ℕ → List Instr
scalar_code (Some r) h to = copy_code label.Public to r
scalar_code None h to = Li to (pos h.word) ∷ Ldw to h.slot to ∷ []

-- the register that holds the value of an expression for the whole run, if it is a number or a scalar that one holds
abbrev pub operand : Setting → Tree → Option ℕ
operand f (Number z) = register_of_number f.held z
operand f (Variable x) = register_for f x
operand f (Element x i) = None
operand f (Operation op a b) = None

-- An operand in such a register needs no code, so it has no notes and shows nothing. Any other is in the register that
-- its code leaves it in.
abbrev pub operand_part : {X : Type 0} → Option ℕ → List X → List X
operand_part (Some r) part = []
operand_part None part = part

abbrev pub operand_register : Option ℕ → ℕ → ℕ
operand_register (Some r) to = r
operand_register None to = to

-- an operand that must be in a register of its own in one case
abbrev pub operand_unless : Bool → Option ℕ → Option ℕ
operand_unless true q = None
operand_unless false q = q

-- the register that holds a number for the whole run, None if none does
abbrev pub held_number : Setting → ℤ → Option ℕ
held_number f z = register_of_number f.held z

-- an operation on a register and a number, in register `to`; a number that no register holds is in register `own`
abbrev pub applied_code : Setting → Op → (to from own : ℕ) → ℤ → List Instr
applied_code f op to from own z =
    operand_part (held_number f z) (Li own z ∷ []) ++ Alu op to from (operand_register (held_number f z) own) ∷ []

-- the operation by which an index is reduced, and its number
abbrev pub reducing : Home → Op
reducing h = if is_masked h then And else Remu

abbrev pub reducer : Home → ℤ
reducer h = if is_masked h then pos (h.length - 1) else pos h.length

-- the number of the word in the array that the index in register `from` names, in register `to`
abbrev pub reduced_code : Setting → Home → (to from : ℕ) → List Instr
reduced_code f h to from = applied_code f (reducing h) to from (to + 1) (reducer h)

-- Public code compares a public index with the array's length before it takes the remainder, if operations by numbers
-- are replaced by steps too. Most indexes are below the length, and a remainder takes many cycles.
abbrev pub compares : Setting → Mode → Home → Tree → Bool
compares f mode h i =
    may_skip_loads mode && (f.reduces && (not (is_masked h) && not (secret_label (label_of (context_of f.decls) i))))

-- an index is known to be below the length of an array of plain or encrypted memory
abbrev pub is_within_home : Setting → Home → Tree → Bool
is_within_home f h i = f.reduces && (is_cached h && is_within f.decls f.ranges i h.length)

-- how the number of a word is found of an index
abbrev pub numbering_by : (within compared : Bool) → Numbering
numbering_by true compared = Within
numbering_by false true = Compared
numbering_by false false = Reduced

abbrev pub numbering : Setting → Mode → Home → Tree → Numbering
numbering f mode h i = numbering_by (is_within_home f h i) (compares f mode h i)

-- The order of unsigned words is the order of the signed words that are 2^63 less.
abbrev pub least_word : ℤ
least_word = negsuc 9223372036854775807

-- The same of an index in register `to`, where the remainder is taken only of one that isn't below the length. The note
-- that follows the code is one of `compared_notes`.
abbrev pub compared_code : Home → ℕ → List Instr
compared_code h to =
    Li (to + 1) least_word
    ∷ Alu Add (to + 1) (to + 1) to
    ∷ Li (to + 2) (least_word +ℤ pos h.length)
    ∷ Br Lt (to + 1) (to + 2) (pos 3)
    ∷ Li (to + 1) (pos h.length)
    ∷ Alu Remu to to (to + 1)
    ∷ []

-- the same by each numbering: an index that is known to be below the length is the number of the word
abbrev pub numbered_code : Numbering → Setting → Home → (to from : ℕ) → List Instr
numbered_code Compared f h to from = compared_code h to
numbered_code Reduced f h to from = reduced_code f h to from
numbered_code Within f h to from = []

-- the number of its block in register to + 1, by a shift
abbrev pub shift_code : Setting → Home → ℕ → List Instr
shift_code f h to =
    applied_code f Shr (to + 1) to (to + 1) (pos f.profile.block_log)
    ++ applied_code f Add (to + 1) (to + 1) (to + 2) (pos h.block)

-- both where the index is a number
abbrev pub fixed_word : Home → ℤ → ℕ
fixed_word h z = unsigned_of z % h.length

abbrev pub fixed_code : ℕ → Home → ℕ → ℤ → List Instr
fixed_code block_log h to z =
    Li to (pos (fixed_word h z)) ∷ Li (to + 1) (pos (h.block + fixed_word h z / 2 ^ block_log)) ∷ []

-- both, by the code of the index
abbrev pub located_code : Numbering → Setting → Home → (to from : ℕ) → Option ℤ → List Instr → List Instr
located_code n f h to from (Some z) index = fixed_code f.profile.block_log h to z
located_code n f h to from None index = index ++ (numbered_code n f h to from ++ shift_code f h to)

-- the block that register to + 1 names is in the home's slot; where loads are skipped, it is loaded only where it isn't
abbrev pub load_code : Bool → Home → ℕ → List Instr
load_code true h to =
    Idb (to + 2) h.slot ∷ Br Eq (to + 2) (to + 1) (pos 2) ∷ Ldb h.slot h.bank (to + 1) ∷ []
load_code false h to = Ldb h.slot h.bank (to + 1) ∷ []

abbrev pub skips : Mode → Home → Bool
skips mode h = may_skip_loads mode && is_cached h

-- the register that has the number of the word then
abbrev pub numbered_register : Numbering → (to from : ℕ) → ℕ
numbered_register Compared to from = to
numbered_register Reduced to from = to
numbered_register Within to from = from

-- The number of a word in a resident array, in register `from`, becomes its number in the block, in register `to`: the
-- number of the array's first word is added, unless that is 0 and both are one register.
abbrev pub offset_code : Setting → Home → (to from : ℕ) → List Instr
offset_code f h to from = if h.word == 0 then [] else applied_code f Add to from (to + 1) (pos h.word)

-- a resident array that doesn't begin its block
abbrev pub has_offset : Home → Bool
has_offset h = h.resident && not (h.word == 0)

-- the number of a word of a resident array in its block, in register `to`, if the index is a number
abbrev pub placed_word : Home → ℕ → ℤ → List Instr
placed_word h to z = Li to (pos (h.word + fixed_word h z)) ∷ []

-- the same for any index
abbrev pub placed_code : Numbering → Setting → Home → (to from : ℕ) → Option ℤ → List Instr → List Instr
placed_code n f h to from (Some z) index = placed_word h to z
placed_code n f h to from None index =
    index ++ (numbered_code n f h to from ++ offset_code f h to (numbered_register n to from))

-- the number of the word in its block in register `to`, with the block in the home's slot
abbrev pub access_by : (resident : Bool) → Numbering → Setting → Mode → Home → (to from : ℕ) → Option ℤ → List Instr
    → List Instr
access_by true n f mode h to from fixed index = placed_code n f h to from fixed index
access_by false n f mode h to from fixed index =
    located_code n f h to from fixed index ++ load_code (skips mode h) h to

-- the part of it that follows the code of the index
abbrev pub found_by : (resident : Bool) → Numbering → Setting → Mode → Home → (to from : ℕ) → List Instr
found_by true n f mode h to from =
    numbered_code n f h to from ++ offset_code f h to (numbered_register n to from)
found_by false n f mode h to from =
    numbered_code n f h to from ++ shift_code f h to ++ load_code (skips mode h) h to

abbrev pub access_code : Numbering → Setting → Mode → Home → (to from : ℕ) → Option ℤ → List Instr → List Instr
access_code n f mode h to from fixed index = access_by h.resident n f mode h to from fixed index

-- An index that is compared with the length, or is the number of the word, must be in register `to`. If it is added to
-- the number of the array's first word, it may be in any register.
abbrev pub is_in_place : Home → Numbering → Bool
is_in_place h Compared = true
is_in_place h Reduced = false
is_in_place h Within = not (has_offset h)

abbrev pub index_operand : Setting → Numbering → Home → Tree → Option ℕ
index_operand f n h i = operand_unless (is_in_place h n) (operand f i)

abbrev pub indexed_code : Setting → Numbering → Mode → Home → ℕ → Tree → List Instr → List Instr
indexed_code f n mode h to i index =
    access_code n f mode h to (operand_register (index_operand f n h i) to)
    (fixed_index h i) (operand_part (index_operand f n h i) index)

-- Register `to` has the number of an element's word, and becomes that word. If slots hold the array for the whole run, an
-- index that is a number names the slot; otherwise the word is selected among those of all its slots.
abbrev pub read_by : (resident : Bool) → Setting → Home → Option ℤ → (to : ℕ) → List Instr
read_by false f h fixed to = Ldw to h.slot to ∷ []
read_by true f h (Some z) to = Ldw to (slot_of_word f h (h.word + fixed_word h z)) to ∷ []
read_by true f h None to = selected_read (words_a_block f) (slots_of_home h) to

abbrev pub read_code : Setting → Home → Option ℤ → (to : ℕ) → List Instr
read_code f h fixed to = read_by h.resident f h fixed to

-- a product, a quotient or a remainder, which take more cycles than other operations
abbrev pub is_product : Op → Bool
is_product Mul = true
is_product Div = true
is_product Rem = true
is_product Remu = true
is_product other = false

-- whether steps may replace an operation: one of these by the number on its right
abbrev pub may_step : Setting → Op → Tree → Bool
may_step f op (Number z) = f.reduces && is_product op
may_step f op other = false

-- the steps that replace it, if there are any
abbrev pub steps_at : Setting → Op → Tree → Option (List Step)
steps_at f op (Number z) = if f.reduces && is_product op then steps_by_number op z else None
steps_at f op other = None

-- Steps begin with the left side in register `to`.
abbrev pub left_operand : Setting → Op → Tree → Tree → Option ℕ
left_operand f op a b = operand_unless (is_some (steps_at f op b)) (operand f a)

-- what follows the code of the left side: the steps, or the code of the right side and the operation on two registers
abbrev pub operation_code : Op → (to left right : ℕ) → Option (List Step) → List Instr → List Instr
operation_code op to left right None code = code ++ Alu op to left right ∷ []
operation_code op to left right (Some steps) code = code_of to steps

-- the value of an expression in register `to`
abbrev pub expr_code : Setting → Mode → ℕ → Tree → List Instr
expr_code f mode to (Number z) = Li to z ∷ []
expr_code f mode to (Variable x) = scalar_code (register_for f x) (home_of f x) to
expr_code f mode to (Element x i) =
    indexed_code f (numbering f mode (home_of f x) i) mode (home_of f x) to i (expr_code f mode to i)
    ++ read_code f (home_of f x) (fixed_index (home_of f x) i) to
expr_code f mode to (Operation op a b) =
    operand_part (left_operand f op a b) (expr_code f mode to a)
    ++ operation_code op to (operand_register (left_operand f op a b) to) (operand_register (operand f b) (to + 1))
    (steps_at f op b) (operand_part (operand f b) (expr_code f mode (to + 1) b))

-- the two sides of a guard in registers `to` and to + 1
abbrev pub guard_code : Setting → Mode → ℕ → Test → List Instr
guard_code f mode to t = expr_code f mode to t.left ++ expr_code f mode (to + 1) t.right

-- The value in a register, or the old word, becomes the word that register 1 names of a slot. In secret code the old
-- word is read in both modes, or `once` only: then code with an effect stores the value, and code without reads the old
-- word into register 0, which takes as many cycles.
abbrev pub store_code : (once : Bool) → Mode → (slot value : ℕ) → List Instr
store_code once Public slot value = Stw value slot 1 ∷ []
store_code false Real slot value = Ldw 2 slot 1 ∷ Stw value slot 1 ∷ []
store_code true Real slot value = Stw value slot 1 ∷ []
store_code false Mirrored slot value = Ldw 2 slot 1 ∷ Stw 2 slot 1 ∷ []
store_code true Mirrored slot value = Ldw 0 slot 1 ∷ []

-- An instruction whose result is for a register that holds a scalar leaves it in register 0 in mirrored code.
abbrev pub target : Mode → (r : ℕ) → ℕ
target Public r = r
target Real r = r
target Mirrored r = 0

-- The value in a register becomes that of a scalar. A register that holds it gets a copy; otherwise its word is in
-- register 1.
abbrev pub write_code : (once : Bool) → Option ℕ → Label → Mode → Home → (value : ℕ) → List Instr
write_code once (Some r) l mode h value = copy_code l (target mode r) value
write_code once None l mode h value = Li 1 (pos h.word) ∷ store_code once mode h.slot value

-- A result has the label of a scalar without being copied, if it is assigned to a public scalar or is secret itself.
abbrev pub keeps_label : (own value : Label) → Bool
keeps_label label.Public value = true
keeps_label label.Secret value = secret_label value

-- The register that holds a scalar, if the last instruction of the code of a value leaves the value in it: an operation
-- that no steps may replace.
abbrev pub straight_if : Bool → Option ℕ → Option ℕ
straight_if true q = q
straight_if false q = None

abbrev pub is_straight : Setting → List ℕ → Op → (a b : Tree) → Bool
is_straight f x op a b =
    f.reduces
    && (not (may_step f op b)
    && keeps_label (label_of (context_of f.decls) (Variable x)) (label_of (context_of f.decls) (Operation op a b)))

abbrev pub straight : Setting → List ℕ → Tree → Option ℕ
straight f x (Operation op a b) = straight_if (is_straight f x op a b) (register_for f x)
straight f x other = None

-- the code of such an operation, with the result in register r
abbrev pub straight_code : Setting → Mode → (r : ℕ) → Tree → List Instr
straight_code f mode r (Operation op a b) =
    operand_part (operand f a) (expr_code f mode 0 a)
    ++ operation_code op r (operand_register (operand f a) 0) (operand_register (operand f b) 1) None
    (operand_part (operand f b) (expr_code f mode 1 b))
straight_code f mode r other = []

-- an assignment to a scalar: the value in register 0 or in the one that holds it, and then written, if not straight
abbrev pub scalar_set : Option ℕ → Setting → Mode → List ℕ → Tree → List Instr
scalar_set None f mode x e =
    operand_part (operand f e) (expr_code f mode 0 e)
    ++ write_code f.reduces (register_for f x) (label_of (context_of f.decls) (Variable x)) mode (home_of f x)
    (operand_register (operand f e) 0)
scalar_set (Some r) f mode x e = straight_code f mode (target mode r) e

-- a word is selected among those of several slots to be stored, or of one slot stored
abbrev pub effect_of : Mode → Effect
effect_of Public = Stores
effect_of Real = Stores
effect_of Mirrored = Keeps

abbrev pub stored_among : Setting → Mode → (slot : ℕ) → (more : List ℕ) → (value : ℕ) → List Instr
stored_among f mode slot [] value = store_code f.reduces mode slot value
stored_among f mode slot (next ∷ slots) value =
    selected_write (effect_of mode) (words_a_block f) value (slot ∷ next ∷ slots) 1

-- An element's word, whose number is in register 1, becomes a value. After that its block is stored, unless slots hold
-- the array for the whole run.
abbrev pub stored_by : (resident : Bool) → Setting → Mode → Home → Option ℤ → (value : ℕ) → List Instr
stored_by false f mode h fixed value = store_code f.reduces mode h.slot value ++ Stb h.slot ∷ []
stored_by true f mode h (Some z) value =
    store_code f.reduces mode (slot_of_word f h (h.word + fixed_word h z)) value
stored_by true f mode h None value = stored_among f mode h.slot (further_slots h) value

abbrev pub stored_code : Setting → Mode → Home → Option ℤ → (value : ℕ) → List Instr
stored_code f mode h fixed value = stored_by h.resident f mode h fixed value

-- an assignment: a value that no register holds in register 0, the word of an element in register 1
abbrev pub set_code : Setting → Mode → Statement → List Instr
set_code f mode (SetVariable x e) = scalar_set (straight f x e) f mode x e
set_code f mode (SetElement x i e) =
    operand_part (operand f e) (expr_code f mode 0 e)
    ++ (indexed_code f (numbering f mode (home_of f x) i) mode (home_of f x) 1 i (expr_code f mode 1 i)
    ++ stored_code f mode (home_of f x) (fixed_index (home_of f x) i) (operand_register (operand f e) 0))
set_code f mode (Choice t a b) = []
set_code f mode (Loop t a) = []
