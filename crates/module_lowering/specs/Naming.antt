-- The rule of names that the lowering needs, as a test: the target of an assignment `x = e;` is a local variable, or an
-- item of one word. (The language of modules is this project's own.)
use Rattle.std.specs.Prelude.{◌≡◌, ℕ, suc, zero, ◌&&◌, ◌||◌, not, Bool, true, false, if◌then◌else◌, List, [], ◌∷◌, bytes_eq}
use Rattle.module_tree.specs.Trees.{Statement, Declare, SetVariable, SetElement, Choice, Loop, Return, Invoke, Nested, Block, Nothing, Then, Parameter, OfWord, OfArray, Function, Item, Module, name_of}
use Rattle.module_calls.specs.Fine.{word_names, among}
use Rattle.module_calls.specs.FirstAssignments.{is_single}

-- whether a name's item has one word, and whether item number k has
abbrev pub single_named : List Item → List ℕ → Bool
single_named [] x = false
single_named (item ∷ items) x = if bytes_eq x (name_of item) then is_single item else single_named items x

abbrev pub single_at : List Item → ℕ → Bool
single_at [] k = false
single_at (item ∷ items) zero = is_single item
single_at (item ∷ items) (suc k) = single_at items k

-- the parameters that are other names for arrays
abbrev pub array_names : List Parameter → List (List ℕ)
array_names [] = []
array_names (OfWord label x ∷ ps) = array_names ps
array_names (OfArray x ∷ ps) = x ∷ array_names ps

-- statements under some local variables, where a test says which other names may be assigned to
module _ (settable : List ℕ → Bool) where
  abbrev mutual
    pub statement_sets : List (List ℕ) → Statement → Bool
    statement_sets own (Declare label x e) = true
    statement_sets own (SetVariable x e) = among own x || settable x
    statement_sets own (SetElement x i e) = true
    statement_sets own (Choice t a b) = block_sets own a && block_sets own b
    statement_sets own (Loop t body step) = block_sets own body && block_sets own step
    statement_sets own (Return e) = true
    statement_sets own (Invoke f es) = true
    statement_sets own (Nested body) = block_sets own body

    pub block_sets : List (List ℕ) → Block → Bool
    block_sets own Nothing = true
    block_sets own (Then (Declare label x e) rest) = block_sets (x ∷ own) rest
    block_sets own (Then first rest) = statement_sets own first && block_sets own rest

abbrev pub settable_in : List Item → List Parameter → List ℕ → Bool
settable_in items ps x = not (among (array_names ps) x) && single_named items x

abbrev pub functions_set : List Item → List Function → Bool
functions_set items [] = true
functions_set items (f ∷ functions) =
    block_sets (settable_in items f.parameters) (word_names f.parameters) f.body && functions_set items functions

abbrev pub SetsScalars : Module → Type 0
SetsScalars m = functions_set m.items m.functions ≡ true
