-- The first statements of a lowered module. The variables of an object begin as zeros, so these statements set the words
-- of the module that aren't zero. (A pass of this project's compiler of modules.)
use Rattle.std.specs.Prelude.{◌≡◌, ℕ, zero, ◌+◌, ◌⊎◌, ℤ, pos, Bool, true, false, if◌then◌else◌, List, [], ◌∷◌, length, Option, None}
use Rattle.std.specs.Option.{unwrap_or}
use Rattle.module_tree.specs.Memory.{Memory, first_word}
use Rattle.module_tree.specs.Trees.{Item, Constant, Table, Scalar, Array}
use Rattle.module_tree.specs.FirstWords.{known_at}
use Rattle.flat_tree.specs.Trees.{Statement, Skip, Seq, Set, Put}
use Rattle.flat_tree.specs.Trees as flat

-- as many zeros as there are words
abbrev pub zeros : List ℤ → List ℤ
zeros [] = []
zeros (word ∷ words) = pos 0 ∷ zeros words

abbrev pub is_null : ℤ → Bool
is_null (pos zero) = true
is_null word = false

-- whether an item has one word
abbrev pub is_single : Item → Bool
is_single (Constant x e) = true
is_single (Table x n es) = false
is_single (Scalar role x e) = true
is_single (Array role x n es) = false

-- sets the elements of variable number k from index i on, as far as they aren't zero
abbrev pub elements_set : ℕ → ℕ → List ℤ → Statement
elements_set k i [] = Skip
elements_set k i (word ∷ words) =
    Seq (if is_null word then Skip else Put k (flat.Number (pos i)) (flat.Number word)) (elements_set k (i + 1) words)

abbrev pub scalar_set : ℕ → ℤ → Statement
scalar_set k word = if is_null word then Skip else Set k (flat.Number word)

abbrev pub item_set : Bool → ℕ → List ℤ → Statement
item_set true k words = scalar_set k (first_word words)
item_set false k words = elements_set k 0 words

abbrev pub items_set : Memory → ℕ → List Item → Statement
items_set start k [] = Skip
items_set start k (item ∷ items) = Seq (item_set (is_single item) k (start k)) (items_set start (k + 1) items)

abbrev pub first_assignments : List Item → Statement
first_assignments items = items_set (known_at items (length items)) 0 items

-- the memory before these statements: inputs, and zeros
abbrev pub before_start : List Item → (ℕ → Option (List ℤ)) → Memory
before_start items inputs k = unwrap_or (inputs k) (zeros (known_at items (length items) k))

-- inputs only for variables that begin as zeros; the checks allow no first words for an `in` variable
abbrev pub OnlyForZeros : List Item → (ℕ → Option (List ℤ)) → Type 0
OnlyForZeros items inputs =
    (k : ℕ) → (inputs k ≡ None) ⊎ (known_at items (length items) k ≡ zeros (known_at items (length items) k))
