-- The meaning of a program: what its variables hold when it finishes, if its loops may execute their bodies a given
-- number of times in all (this project's profile of the source language of GhostRider, ASPLOS 2015). Words and
-- operations are the machine's. Every tree has a meaning: a name that isn't declared is read as 0, and writing to it
-- changes nothing.
use Rattle.std.specs.Prelude.{ℕ, suc, zero, ◌+◌, ◌%◌, ℤ, pos, Bool, if◌then◌else◌, List, [], ◌∷◌, length, slice_index_or, slice_set, bytes_eq, Option, Some, None}
use Rattle.std.specs.Option.{option_and_then, option_map}
use Rattle.gr_word.specs.Words.{applied, compared, unsigned_of}
use Rattle.src_tree.specs.declared.trees.Decl.{Decl}
use Rattle.src_tree.specs.Trees.{Tree, Number, Variable, Element, Operation, Test, Statement, SetVariable, SetElement, Choice, Loop, Block, Nothing, Then, Source}

-- a store: the words of each variable, in the order of declaration; a scalar has one word
abbrev pub Store : Type 0
Store = List (List ℤ)

-- the number of a name's variable, which is that of its first declaration, or the number of declarations if there is
-- none
abbrev pub variable_number : List Decl → List ℕ → ℕ
variable_number [] name = 0
variable_number (d ∷ ds) name = if bytes_eq name d.name then 0 else 1 + variable_number ds name

-- the words of variable number k
abbrev pub words_of_number : Store → ℕ → List ℤ
words_of_number store k = slice_index_or store k []

-- an index is an unsigned number, modulo the number of words
-- Rule: meaning/index.
abbrev pub wrapped : List ℤ → ℤ → ℕ
wrapped words index = unsigned_of index % length words

-- the word of variable number k at an index
abbrev pub element : Store → ℕ → ℤ → ℤ
element store k index = slice_index_or (words_of_number store k) (wrapped (words_of_number store k) index) (pos 0)

-- the first word of variable number k
abbrev pub scalar : Store → ℕ → ℤ
scalar store k = slice_index_or (words_of_number store k) 0 (pos 0)

-- a store with another word number `at` of variable number k
abbrev pub with_word : Store → ℕ → ℕ → ℤ → Store
with_word store k at word = slice_set store k (slice_set (words_of_number store k) at word)

-- the value of an expression
abbrev pub evaluated : List Decl → Store → Tree → ℤ
evaluated decls store (Number z) = z
evaluated decls store (Variable x) = scalar store (variable_number decls x)
evaluated decls store (Element x i) = element store (variable_number decls x) (evaluated decls store i)
evaluated decls store (Operation op a b) = applied op (evaluated decls store a) (evaluated decls store b)

-- whether a guard is true
abbrev pub guard_holds : List Decl → Store → Test → Bool
guard_holds decls store t = compared t.cmp (evaluated decls store t.left) (evaluated decls store t.right)

-- the stores after assignments
abbrev pub scalar_set : Store → ℕ → ℤ → Store
scalar_set store k value = with_word store k 0 value

abbrev pub element_set : Store → ℕ → ℤ → ℤ → Store
element_set store k index value = with_word store k (wrapped (words_of_number store k) index) value

-- the state between two statements: a store, and how many iterations of loops are left
pub record Left : Type 0 where
  pub store : Store
  pub turns : ℕ

-- what statements leave, or nothing if they are spent: a loop needed an iteration, and none was left
abbrev pub Execution : Type 0
Execution = Left → Option Left

-- one execution, and then another
abbrev pub in_turn : Execution → Execution → Execution
in_turn first second before = option_and_then second (first before)

-- an iteration if one is left: the body, and then the rest with one fewer
abbrev pub turn_taken : Execution → Execution → ℕ → Store → Option Left
turn_taken body rest zero store = None
turn_taken body rest (suc turns) store = in_turn body rest (record { store = store; turns = turns })

-- A loop that executes its body as long as a test is true, at most `most` times. That is no bound if no more iterations
-- than that are left.
unfoldable pub looped : (Store → Bool) → Execution → ℕ → Execution
looped holds body zero before = if holds before.store then None else Some before
looped holds body (suc most) before =
    if holds before.store then turn_taken body (looped holds body most) before.turns before.store else Some before

-- a loop
abbrev pub loop : (Store → Bool) → Execution → Execution
loop holds body before = looped holds body before.turns before

-- the execution of statements
abbrev mutual
  pub run_of : List Decl → Statement → Execution
  run_of decls (SetVariable x e) before =
      Some
      (record before {
        store = scalar_set before.store (variable_number decls x) (evaluated decls before.store e);
      })
  run_of decls (SetElement x i e) before =
      Some
      (record before {
        store =
            element_set before.store (variable_number decls x) (evaluated decls before.store i)
            (evaluated decls before.store e);
      })
  run_of decls (Choice t a b) before =
      if guard_holds decls before.store t then run_of_block decls a before else run_of_block decls b before
  run_of decls (Loop t a) before = loop (λ store. guard_holds decls store t) (run_of_block decls a) before

  pub run_of_block : List Decl → Block → Execution
  run_of_block decls Nothing before = Some before
  run_of_block decls (Then s rest) before = in_turn (run_of decls s) (run_of_block decls rest) before

-- the store that a program leaves, or nothing if it is spent
abbrev pub meaning : Source → Store → ℕ → Option Store
meaning p store turns =
    option_map (λ left. left.store) (run_of_block p.decls p.body (record { store = store; turns = turns }))
