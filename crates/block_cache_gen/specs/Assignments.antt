-- What the code of an assignment does: the store that it leaves, and what is seen of it; and which store a statement
-- leaves for any number of iterations left. (This project's layout of compiled code.)
use Rattle.std.specs.Prelude.{◌≡◌, ℕ, ◌%◌, Bool, true, false, ℤ, List, [], ◌∷◌, ◌++◌, slice_set, Some}
use Rattle.lt_isa.specs.Machine.{Slot, Observed, State, word_in, write_event}
use Rattle.src_tree.specs.declared.trees.Decl.{Decl}
use Rattle.src_tree.specs.Meaning.{Store, variable_number, evaluated, scalar_set, element_set, run_of}
use Rattle.src_tree.specs.Trees.{Element, Statement, SetVariable, SetElement, Choice, Loop}
use Rattle.block_cache_gen.specs.declared.frames.Mode.{Mode}
use Rattle.block_cache_gen.specs.declared.frames.Mode.TheVariants.{Public, Real, Mirrored}
use Rattle.block_cache_gen.specs.Homes.{Setting, home_of, words_a_block}
use Rattle.block_cache_gen.specs.StandsFor.{StandsFor, FitsHomes}
use Rattle.block_cache_gen.specs.Accesses.{ArrayAccess, Banks, block_in, access_of, accesses, word_number, seen_of_all}

-- the statements that are assignments
abbrev pub IsAssignment : Statement → Type 0
IsAssignment (SetVariable x e) = Unit {0}
IsAssignment (SetElement x i e) = Unit {0}
IsAssignment (Choice t a b) = ⊥
IsAssignment (Loop t a) = ⊥

-- the store that an assignment makes of a store
abbrev pub assigned : List Decl → Statement → Store → Store
assigned decls (SetVariable x e) store = scalar_set store (variable_number decls x) (evaluated decls store e)
assigned decls (SetElement x i e) store =
    element_set store (variable_number decls x) (evaluated decls store i) (evaluated decls store e)
assigned decls (Choice t a b) store = store
assigned decls (Loop t a) store = store

-- for any number of iterations left, a statement leaves this store, and the same number
abbrev pub IsEffect : List Decl → Statement → (Store → Store) → Type 0
IsEffect decls s after =
    (store : Store) (turns : ℕ)
    → run_of decls s (record { store = store; turns = turns }) ≡ Some (record { store = after store; turns = turns })

-- one thing where an assignment has its effect, and another where it only looks as if it had
abbrev pub by_mode : {X : Type 0} → Mode → X → X → X
by_mode Public effect none = effect
by_mode Real effect none = effect
by_mode Mirrored effect none = none

-- the accesses of an assignment: those of the value come before those of the index and the element
abbrev pub set_accesses : Setting → Store → Statement → List ArrayAccess
set_accesses f store (SetVariable x e) = accesses f store e
set_accesses f store (SetElement x i e) = accesses f store e ++ accesses f store (Element x i)
set_accesses f store (Choice t a b) = []
set_accesses f store (Loop t a) = []

-- the words of a block in which a word may be written
abbrev pub words_written : Mode → List ℤ → ℕ → ℤ → List ℤ
words_written mode words n word = slice_set words n (by_mode mode word (word_in words n))

-- the write of a block, unless the block stays in its slot
abbrev pub write_by : Bool → Observed → List Observed
write_by true seen = []
write_by false seen = seen ∷ []

-- the one write of an assignment to an element, and none of one to a scalar
abbrev pub seen_of_write : Setting → Mode → Banks → Store → Statement → List Observed
seen_of_write f mode banks store (SetElement x i e) =
    let index = evaluated f.decls store i in
    let a = access_of f store x index in
    write_by (home_of f x).resident
    (write_event a.home.bank a.block
    (words_written mode (block_in banks a.home.bank a.block) (word_number f store x index % words_a_block f)
    (evaluated f.decls store e)))
seen_of_write f mode banks store other = []

-- what is seen of an assignment that finds the banks and the slots so
abbrev pub seen_of_set : Setting → Mode → Banks → List Slot → Store → Statement → List Observed
seen_of_set f mode banks slots store s =
    seen_of_all mode banks slots (set_accesses f store s) ++ seen_of_write f mode banks store s

-- the state represents a store that has as many words as its homes
pub record Assigns (f : Setting) (store : Store) (t : State) : Type 0 where
  pub stands : StandsFor f t store
  pub fits : FitsHomes f store
