-- The accesses that compiled code makes of arrays, in the order in which they are made, and what is seen of them:
-- public code makes no access of plain or encrypted memory whose block is in its slot.
-- (GhostRider, ASPLOS 2015: the scratchpad as a cache of blocks; this project's layout of compiled code.)
use Rattle.std.specs.Prelude.{ℕ, ◌+◌, ◌/◌, Bool, true, false, ◌&&◌, ◌==◌, nat_lt, if◌then◌else◌, ℤ, List, [], ◌∷◌, ◌++◌, slice_index_or, slice_set}
use Rattle.lt_isa.specs.Machine.{Slot, Unbound, Bound, Observed, read_event}
use Rattle.src_tree.specs.Meaning.{Store, variable_number, words_of_number, wrapped, evaluated}
use Rattle.src_tree.specs.Trees.{Tree, Number, Variable, Element, Operation, Test}
use Rattle.block_cache_gen.specs.declared.frames.Mode.{Mode}
use Rattle.block_cache_gen.specs.declared.frames.Mode.TheVariants.{Public, Real, Mirrored}
use Rattle.block_cache_gen.specs.Homes.{Home, Setting, home_of, words_a_block}

-- an access: the home of the array, and the block of its bank in which the word is
pub record ArrayAccess : Type 0 where
  pub home : Home
  pub block : ℕ

-- the number of the word of an array that an index names
abbrev pub word_number : Setting → Store → List ℕ → ℤ → ℕ
word_number f store x index = wrapped (words_of_number store (variable_number f.decls x)) index

-- the access of an element of an array
abbrev pub access_of : Setting → Store → List ℕ → ℤ → ArrayAccess
access_of f store x index =
    record { home = home_of f x; block = (home_of f x).block + word_number f store x index / words_a_block f }

-- an element of a resident array makes no access
abbrev pub accessed_by : Bool → ArrayAccess → List ArrayAccess
accessed_by true a = []
accessed_by false a = a ∷ []

-- the accesses of an expression: those of an index come before that of its element
abbrev pub accesses : Setting → Store → Tree → List ArrayAccess
accesses f store (Number z) = []
accesses f store (Variable x) = []
accesses f store (Element x i) =
    accesses f store i ++ accessed_by (home_of f x).resident (access_of f store x (evaluated f.decls store i))
accesses f store (Operation op a b) = accesses f store a ++ accesses f store b

-- those of a guard
abbrev pub test_accesses : Setting → Store → Test → List ArrayAccess
test_accesses f store t = accesses f store t.left ++ accesses f store t.right

-- the banks of the machine: each a list of blocks, and a block a list of words
abbrev pub Banks : Type 0
Banks = List (List (List ℤ))

abbrev pub block_in : Banks → ℕ → ℕ → List ℤ
block_in banks b a = slice_index_or (slice_index_or banks b []) a []

-- the slots behind accesses: each leaves its block in the slot that serves its home, as the bank has it
abbrev pub slots_after : Banks → List Slot → List ArrayAccess → List Slot
slots_after banks slots [] = slots
slots_after banks slots (a ∷ rest) =
    slots_after banks
    (slice_set slots a.home.slot (Bound a.home.bank a.block (block_in banks a.home.bank a.block))) rest

-- a slot holds a block of a bank
abbrev pub is_held : Slot → ℕ → ℕ → Bool
is_held Unbound bank block = false
is_held (Bound b a words) bank block = (b == bank) && (a == block)

-- whether an access is skipped where its block is held: in public code, of plain and of encrypted memory
abbrev pub may_skip : Mode → Home → Bool
may_skip Public h = nat_lt h.bank 2
may_skip Real h = false
may_skip Mirrored h = false

-- what is seen of an access that finds the slots so, and of several
abbrev pub seen_of : Mode → Banks → List Slot → ArrayAccess → List Observed
seen_of mode banks slots a =
    if may_skip mode a.home && is_held (slice_index_or slots a.home.slot Unbound) a.home.bank a.block then []
    else read_event a.home.bank a.block (block_in banks a.home.bank a.block) ∷ []

abbrev pub seen_of_all : Mode → Banks → List Slot → List ArrayAccess → List Observed
seen_of_all mode banks slots [] = []
seen_of_all mode banks slots (a ∷ rest) =
    seen_of mode banks slots a ++ seen_of_all mode banks (slots_after banks slots (a ∷ [])) rest
