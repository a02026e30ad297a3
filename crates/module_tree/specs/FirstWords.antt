-- The words with which a module's items begin: those of constant expressions, unless inputs give others. (The language of
-- modules is this project's own.)
use Rattle.std.specs.Prelude.{ℕ, suc, zero, ℤ, pos, if◌then◌else◌, List, [], ◌∷◌, length, replicate, bytes_eq, Option, Some, None}
use Rattle.std.specs.Option.{option_map, unwrap_or}
use Rattle.gr_word.specs.Words.{unsigned_of}
use Rattle.module_tree.specs.Memory.{Memory}
use Rattle.module_tree.specs.Trees.{Expression, Expressions, NoMore, More, Item, Constant, Table, Scalar, Array, name_of}
use Rattle.module_tree.specs.Values.{Names, Valued, valued}

-- the number of a name's item
abbrev pub number_named : List Item → Names
number_named [] name = None
number_named (item ∷ items) name =
    if bytes_eq name (name_of item) then Some 0 else option_map (λ k. suc k) (number_named items name)

-- the words of constant expressions, from the words of the items that they use
abbrev pub known_word : Option Valued → ℤ
known_word None = pos 0
known_word (Some v) = v.word

abbrev pub known : Names → Memory → Expression → ℤ
known names needed e =
    known_word (valued (λ k. length (needed k)) (λ f arguments memory turns. None) names [] needed e 0)

abbrev pub known_all : Names → Memory → Expressions → List ℤ
known_all names needed NoMore = []
known_all names needed (More e es) = known names needed e ∷ known_all names needed es

abbrev pub words_or_zeros : List ℤ → ℕ → List ℤ
words_or_zeros [] n = replicate n (pos 0)
words_or_zeros words n = words

-- the words of an item
abbrev pub words_of : Names → Memory → Item → List ℤ
words_of names needed (Constant x e) = known names needed e ∷ []
words_of names needed (Table x n es) = known_all names needed es
words_of names needed (Scalar role x e) = known names needed e ∷ []
words_of names needed (Array role x n es) =
    words_or_zeros (known_all names needed es) (unsigned_of (known names needed n))

abbrev pub words_at : Names → Memory → List Item → Memory
words_at names needed [] k = []
words_at names needed (item ∷ items) zero = words_of names needed item
words_at names needed (item ∷ items) (suc k) = words_at names needed items k

-- The words of all items, if no chain of items that use each other is longer than `depth`. A constant doesn't use itself,
-- so a chain is at most as long as there are items.
unfoldable pub known_at : List Item → ℕ → Memory
known_at items zero = λ k. []
known_at items (suc depth) = words_at (number_named items) (known_at items depth) items

-- the memory at the start
abbrev pub at_start : List Item → (ℕ → Option (List ℤ)) → Memory
at_start items inputs k = unwrap_or (inputs k) (known_at items (length items) k)

-- the number of words of each item
abbrev pub sizes_of : List Item → ℕ → ℕ
sizes_of items k = length (known_at items (length items) k)
