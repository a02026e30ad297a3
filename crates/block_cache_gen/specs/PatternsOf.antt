-- What the check sees where the code of an expression, a guard or an assignment is walked in an arm of a branch on a
-- secret: what is shown, the tree that is left of a public expression, and what the loads leave in the slots. All of it
-- is told by the setting and the part alone. (GhostRider, ASPLOS 2015: the trace patterns of the type system of L_T;
-- which code is made is this project's own choice.)
use Rattle.std.specs.Prelude.{ℕ, zero, suc, ◌+◌, ◌/◌, ◌==◌, Bool, true, false, ℤ, pos, if◌then◌else◌, List, [], ◌∷◌, ◌++◌, length, map, Option, Some, None}
use Rattle.std.specs.Option.{option_or}
use Rattle.gr_word.specs.declared.operations.Op.{Op}
use Rattle.gr_word.specs.declared.operations.Op.TheVariants.{Add, Remu, Shr}
use Rattle.lt_isa.specs.Object.{is_ram, is_eram}
use Rattle.lt_isa.specs.Costs.{operation_cost}
use Rattle.gr_word.specs.declared.variables.Label.{Label}
use Rattle.symbolic_values.specs.Trees.{Value, Const, Apply, Reg, SlotAt}
use Rattle.src_tree.specs.Trees.{Tree, Number, Variable, Element, Operation, Test, Statement, SetVariable, SetElement, Choice, Loop}
use Rattle.trace_patterns.specs.Patterns.{Shown}
use Rattle.trace_patterns.specs.Events.{TreeEvent, RamRead, EncRead, EncWrite, Oram}
use Rattle.stretches.specs.Shows.{Show, Gap, Seen, pattern_of}
use Rattle.trace_patterns.specs.SymStates.{Loaded, Entry, SymSlot, AnySlot, RamSlot, EramSlot, OramSlot}
use Rattle.trace_patterns.specs.Single.{applied_trees, word_tree}
use Rattle.held_registers.specs.Held.{public_zero}
use Rattle.block_cache_gen.specs.Homes.{Home, Setting, held_label, home_of, register_for, words_a_block, blocks_set, slots_of_home, further_slots}
use Rattle.block_cache_gen.specs.Carries.{held_tree}
use Rattle.block_cache_gen.specs.Codes.{fixed_index, fixed_word, held_number, is_within_home, numbering_by, reducer, reducing, operand, operand_part, index_operand, left_operand, steps_at, straight}
use Rattle.strength_reduction.specs.Steps.{Step, Constant, Compute, left_by}
use Rattle.word_selection.specs.Selection as selection

-- the cycles of an operation, and of a word that is read or written in a slot
abbrev pub operation_gap : Setting → Op → Show
operation_gap f op = Gap (operation_cost f.profile op)

abbrev pub word_gap : Setting → Show
word_gap f = Gap f.profile.word

-- the block that a number names in a bank, and the word that it names in a block
abbrev pub block_named_by : Setting → ℕ → Value → Value
block_named_by f bank t = Apply Remu t (Const (pos (blocks_set f bank)))

abbrev pub word_named_by : Setting → Value → Value
word_named_by f t = Apply Remu t (Const (pos (words_a_block f)))

-- a slot's word, where it is one of plain memory and its place is known
abbrev pub word_read : Setting → SymSlot → Option Value → Option Value
word_read f (RamSlot block origin) (Some t) = Some (word_tree origin block (word_named_by f t))
word_read f _ _ = None

-- what a slot holds for the whole run: of plain memory what it held at the entry
abbrev pub pinned_slot : Home → SymSlot
pinned_slot h = if is_ram h.bank then RamSlot (SlotAt h.slot) (Entry h.slot) else AnySlot

-- the word of a scalar: a copy of the register that holds it for the whole run, or read from its slot
abbrev pub tree_by : ℕ → Option Label → Option Value
tree_by r None = None
tree_by r (Some l) = held_tree r l

abbrev pub scalar_tree : Setting → Option ℕ → Home → Option Value
scalar_tree f (Some r) h = applied_trees Add (tree_by r (held_label f r)) (Some (Reg public_zero))
scalar_tree f None h = word_read f (pinned_slot h) (Some (Const (pos h.word)))

-- the tree of an operand, which may be in a register that holds it for the whole run
abbrev pub operand_tree : Setting → Option ℕ → Option Value → Option Value
operand_tree f (Some r) tree = tree_by r (held_label f r)
operand_tree f None tree = tree

-- the tree of a number that code makes, and the cycles of an operation on it
abbrev pub number_in : Setting → ℤ → Option Value
number_in f z = operand_tree f (held_number f z) (Some (Const z))

abbrev pub applied_shows : Setting → Op → ℤ → List Show
applied_shows f op z = operand_part (held_number f z) (Gap 1 ∷ []) ++ operation_gap f op ∷ []

-- The number of an element's word in its array: an index that is known to be below the length, the index taken modulo
-- the length, or the same of an index that is a number. Then the number of its block in the bank.
abbrev pub reduced_tree : Setting → Home → Option Value → Option Value
reduced_tree f h index = applied_trees (reducing h) index (number_in f (reducer h))

abbrev pub numbered_tree : (within : Bool) → Setting → Home → Option Value → Option Value
numbered_tree true f h index = index
numbered_tree false f h index = reduced_tree f h index

abbrev pub number_tree : (within : Bool) → Setting → Home → Option ℤ → Option Value → Option Value
number_tree within f h (Some z) index = Some (Const (pos (fixed_word h z)))
number_tree within f h None index = numbered_tree within f h index

-- the number of a resident array's word in its block
abbrev pub placed_tree : (within : Bool) → Setting → Home → Option ℤ → Option Value → Option Value
placed_tree within f h (Some z) index = Some (Const (pos (h.word + fixed_word h z)))
placed_tree within f h None index =
    if h.word == 0 then numbered_tree within f h index
    else applied_trees Add (numbered_tree within f h index) (number_in f (pos h.word))

abbrev pub shifted_tree : Setting → Home → Option Value → Option Value
shifted_tree f h number =
    applied_trees Add (applied_trees Shr number (number_in f (pos f.profile.block_log))) (number_in f (pos h.block))

abbrev pub block_tree : (within : Bool) → Setting → Home → Option ℤ → Option Value → Option Value
block_tree within f h (Some z) index = Some (Const (pos (h.block + fixed_word h z / words_a_block f)))
block_tree within f h None index = shifted_tree f h (numbered_tree within f h index)

-- the cycles of finding both
abbrev pub shifted_shows : Setting → Home → List Show
shifted_shows f h = applied_shows f Shr (pos f.profile.block_log) ++ applied_shows f Add (pos h.block)

abbrev pub reduced_shows : Setting → Home → List Show
reduced_shows f h = applied_shows f (reducing h) (reducer h)

abbrev pub numbered_shows : (within : Bool) → Setting → Home → List Show
numbered_shows true f h = []
numbered_shows false f h = reduced_shows f h

abbrev pub found_shows : (within : Bool) → Setting → Home → Option ℤ → List Show → List Show
found_shows within f h (Some z) index = Gap 1 ∷ Gap 1 ∷ []
found_shows within f h None index = index ++ (numbered_shows within f h ++ shifted_shows f h)

abbrev pub offset_shows : Setting → Home → List Show
offset_shows f h = if h.word == 0 then [] else applied_shows f Add (pos h.word)

abbrev pub placed_shows : (within : Bool) → Setting → Home → Option ℤ → List Show → List Show
placed_shows within f h (Some z) index = Gap 1 ∷ []
placed_shows within f h None index = index ++ (numbered_shows within f h ++ offset_shows f h)

-- what a slot holds once a block of a bank is loaded; in plain and encrypted memory its number must be known
abbrev pub plain_loaded : Setting → Option Value → SymSlot
plain_loaded f None = AnySlot
plain_loaded f (Some t) = RamSlot (block_named_by f 0 t) Loaded

abbrev pub encrypted_loaded : Setting → Option Value → SymSlot
encrypted_loaded f None = AnySlot
encrypted_loaded f (Some t) = EramSlot (block_named_by f 1 t)

abbrev pub block_loaded : Setting → ℕ → Option Value → SymSlot
block_loaded f bank block =
    if is_ram bank then plain_loaded f block else (if is_eram bank then encrypted_loaded f block else OramSlot bank)

-- what a load of a slot's block shows, and a store
abbrev pub load_shows : SymSlot → List Show
load_shows AnySlot = []
load_shows (RamSlot block origin) = Seen (RamRead block) ∷ []
load_shows (EramSlot block) = Seen (EncRead block) ∷ []
load_shows (OramSlot bank) = Seen (Oram bank) ∷ []

abbrev pub store_shows : SymSlot → List Show
store_shows AnySlot = []
store_shows (RamSlot block origin) = []
store_shows (EramSlot block) = Seen (EncWrite block) ∷ []
store_shows (OramSlot bank) = Seen (Oram bank) ∷ []

-- what loads leave in a slot, none where nothing is loaded to it
abbrev pub Loads : Type 0
Loads = ℕ → Option SymSlot

abbrev pub no_loads : Loads
no_loads slot = None

-- loads and then others
abbrev pub then_loads : Loads → Loads → Loads
then_loads first rest slot = option_or (rest slot) (first slot)

abbrev pub one_load : ℕ → SymSlot → Loads
one_load to bound slot = if slot == to then Some bound else None

-- the loads of an index, none if it is a number that needs no code
abbrev pub index_loads : Option ℤ → Loads → Loads
index_loads (Some z) loads = no_loads
index_loads None loads = loads

-- the block of an element of an array, loaded to the array's slot
abbrev pub element_slot : (within : Bool) → Setting → Home → Option ℤ → Option Value → SymSlot
element_slot within f h fixed index = block_loaded f h.bank (block_tree within f h fixed index)

-- an access: a resident array's loads nothing
abbrev pub shows_by : (resident within : Bool) → Setting → Home → Option ℤ → Option Value → List Show → List Show
shows_by true within f h fixed index shows = placed_shows within f h fixed shows
shows_by false within f h fixed index shows =
    found_shows within f h fixed shows ++ load_shows (element_slot within f h fixed index)

abbrev pub access_shows : (within : Bool) → Setting → Home → Option ℤ → Option Value → List Show → List Show
access_shows within f h fixed index shows = shows_by h.resident within f h fixed index shows

abbrev pub loads_by : (resident within : Bool) → Setting → Home → Option ℤ → Option Value → Loads → Loads
loads_by true within f h fixed index loads = index_loads fixed loads
loads_by false within f h fixed index loads =
    then_loads (index_loads fixed loads) (one_load h.slot (element_slot within f h fixed index))

abbrev pub access_loads : (within : Bool) → Setting → Home → Option ℤ → Option Value → Loads → Loads
access_loads within f h fixed index loads = loads_by h.resident within f h fixed index loads

-- the word that is read
abbrev pub element_by : (resident within : Bool) → Setting → Home → Option ℤ → Option Value → Option Value
element_by true within f h fixed index = word_read f (pinned_slot h) (placed_tree within f h fixed index)
element_by false within f h fixed index =
    word_read f (element_slot within f h fixed index) (number_tree within f h fixed index)

-- the register of an index that is held for the whole run, unless the index is the number of the word in its block
abbrev pub index_by : (within : Bool) → Setting → Home → Tree → Option ℕ
index_by within f h i = index_operand f (numbering_by within false) h i

-- the cycles of reading it
abbrev pub read_shows_by : (resident : Bool) → Setting → Home → Option ℤ → List Show
read_shows_by false f h fixed = word_gap f ∷ []
read_shows_by true f h (Some z) = word_gap f ∷ []
read_shows_by true f h None = selection.read_shows f.profile (length (slots_of_home h))

abbrev pub read_shows : Setting → Home → Option ℤ → List Show
read_shows f h fixed = read_shows_by h.resident f h fixed

-- the cycles of a store of a word in secret code, which takes one access or two
abbrev pub word_shows : (once : Bool) → Setting → List Show
word_shows false f = word_gap f ∷ word_gap f ∷ []
word_shows true f = word_gap f ∷ []

-- The same of an element, with the store of its block, where an array's block is stored back unless slots hold the array
-- for the whole run.
abbrev pub shows_among : Setting → (more : ℕ) → List Show
shows_among f zero = word_shows f.reduces f
shows_among f (suc more) = selection.write_shows f.profile (more + 2)

abbrev pub stored_shows_by : (resident : Bool) → Setting → Home → Option ℤ → SymSlot → List Show
stored_shows_by false f h fixed bound = word_shows f.reduces f ++ store_shows bound
stored_shows_by true f h (Some z) bound = word_shows f.reduces f
stored_shows_by true f h None bound = shows_among f (length (further_slots h))

abbrev pub stored_shows : Setting → Home → Option ℤ → SymSlot → List Show
stored_shows f h fixed bound = stored_shows_by h.resident f h fixed bound

-- the cycles of a step, and the tree that steps leave of the tree in the first of their registers
abbrev pub step_gap : Setting → Step → Show
step_gap f (Constant to z) = Gap 1
step_gap f (Compute op to left right) = operation_gap f op

abbrev pub steps_tree : List Step → Option Value → Option Value
steps_tree steps value = left_by (λ z. Some (Const z)) applied_trees steps (λ i. if i == 0 then value else None) 0

-- an operation, or the steps that replace it
abbrev pub operation_tree : Op → Option (List Step) → Option Value → Option Value → Option Value
operation_tree op None left right = applied_trees op left right
operation_tree op (Some steps) left right = steps_tree steps left

abbrev pub operation_shows : Setting → Op → Option (List Step) → List Show → List Show
operation_shows f op None right = right ++ operation_gap f op ∷ []
operation_shows f op (Some steps) right = map (step_gap f) steps

abbrev pub operation_loads : Option (List Step) → Loads → Loads
operation_loads None right = right
operation_loads (Some steps) right = no_loads

-- the tree of an expression, none where a secret stands in it
abbrev pub tree_of_expr : Setting → Tree → Option Value
tree_of_expr f (Number z) = Some (Const z)
tree_of_expr f (Variable x) = scalar_tree f (register_for f x) (home_of f x)
tree_of_expr f (Element x i) =
    let within = is_within_home f (home_of f x) i in
    element_by (home_of f x).resident within f (home_of f x) (fixed_index (home_of f x) i)
    (operand_tree f (index_by within f (home_of f x) i) (tree_of_expr f i))
tree_of_expr f (Operation op a b) =
    operation_tree op (steps_at f op b) (operand_tree f (left_operand f op a b) (tree_of_expr f a))
    (operand_tree f (operand f b) (tree_of_expr f b))

-- the cycles of reading and of writing a scalar in secret code
abbrev pub scalar_shows : Setting → Option ℕ → List Show
scalar_shows f (Some r) = operation_gap f Add ∷ []
scalar_shows f None = Gap 1 ∷ word_gap f ∷ []

abbrev pub write_shows : Setting → Option ℕ → List Show
write_shows f (Some r) = operation_gap f Add ∷ []
write_shows f None = Gap 1 ∷ word_shows f.reduces f

-- what its code shows
abbrev pub shows_of_expr : Setting → Tree → List Show
shows_of_expr f (Number z) = Gap 1 ∷ []
shows_of_expr f (Variable x) = scalar_shows f (register_for f x)
shows_of_expr f (Element x i) =
    let within = is_within_home f (home_of f x) i in
    access_shows within f (home_of f x) (fixed_index (home_of f x) i)
    (operand_tree f (index_by within f (home_of f x) i) (tree_of_expr f i))
    (operand_part (index_by within f (home_of f x) i) (shows_of_expr f i))
    ++ read_shows f (home_of f x) (fixed_index (home_of f x) i)
shows_of_expr f (Operation op a b) =
    operand_part (left_operand f op a b) (shows_of_expr f a)
    ++ operation_shows f op (steps_at f op b) (operand_part (operand f b) (shows_of_expr f b))

-- what its loads leave in each slot
abbrev pub slots_of_expr : Setting → Tree → Loads
slots_of_expr f (Number z) = no_loads
slots_of_expr f (Variable x) = no_loads
slots_of_expr f (Element x i) =
    let within = is_within_home f (home_of f x) i in
    access_loads within f (home_of f x) (fixed_index (home_of f x) i)
    (operand_tree f (index_by within f (home_of f x) i) (tree_of_expr f i))
    (slots_of_expr f i)
slots_of_expr f (Operation op a b) =
    then_loads (slots_of_expr f a) (operation_loads (steps_at f op b) (slots_of_expr f b))

-- the same of a guard
abbrev pub shows_of_test : Setting → Test → List Show
shows_of_test f t = shows_of_expr f t.left ++ shows_of_expr f t.right

abbrev pub slots_of_test : Setting → Test → Loads
slots_of_test f t = then_loads (slots_of_expr f t.left) (slots_of_expr f t.right)

-- the same of an assignment in secret code, where an array's block is stored back
abbrev pub scalar_set_shows : Option ℕ → Setting → List ℕ → Tree → List Show
scalar_set_shows None f x e = operand_part (operand f e) (shows_of_expr f e) ++ write_shows f (register_for f x)
scalar_set_shows (Some r) f x e = shows_of_expr f e

abbrev pub shows_of_set : Setting → Statement → List Show
shows_of_set f (SetVariable x e) = scalar_set_shows (straight f x e) f x e
shows_of_set f (SetElement x i e) =
    let within = is_within_home f (home_of f x) i in
    operand_part (operand f e) (shows_of_expr f e)
    ++ (access_shows within f (home_of f x) (fixed_index (home_of f x) i)
    (operand_tree f (index_by within f (home_of f x) i) (tree_of_expr f i))
    (operand_part (index_by within f (home_of f x) i) (shows_of_expr f i))
    ++ stored_shows f (home_of f x) (fixed_index (home_of f x) i)
    (element_slot within f (home_of f x) (fixed_index (home_of f x) i)
    (operand_tree f (index_by within f (home_of f x) i) (tree_of_expr f i))))
shows_of_set f (Choice t a b) = []
shows_of_set f (Loop t a) = []

abbrev pub slots_of_set : Setting → Statement → Loads
slots_of_set f (SetVariable x e) = slots_of_expr f e
slots_of_set f (SetElement x i e) =
    let within = is_within_home f (home_of f x) i in
    then_loads (slots_of_expr f e)
    (access_loads within f (home_of f x) (fixed_index (home_of f x) i)
    (operand_tree f (index_by within f (home_of f x) i) (tree_of_expr f i))
    (slots_of_expr f i))
slots_of_set f (Choice t a b) = no_loads
slots_of_set f (Loop t a) = no_loads

-- as patterns
abbrev pub pattern_of_expr : Setting → Tree → Shown TreeEvent
pattern_of_expr f e = pattern_of (shows_of_expr f e)

abbrev pub pattern_of_test : Setting → Test → Shown TreeEvent
pattern_of_test f t = pattern_of (shows_of_test f t)

abbrev pub pattern_of_set : Setting → Statement → Shown TreeEvent
pattern_of_set f s = pattern_of (shows_of_set f s)
