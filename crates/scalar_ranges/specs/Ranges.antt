-- What is known of a store at a statement: for each variable, from which number to which other one its value is. (This
-- project's compiler.)
use Rattle.std.specs.Prelude.{◌≡◌, ℕ, ◌<◌, ◌≤◌, ℤ, pos, List, length, slice_index_or, Option, Some, None}
use Rattle.gr_word.specs.declared.variables.Label.TheVariants.{Public}
use Rattle.src_tree.specs.declared.trees.Decl.{Decl}
use Rattle.src_tree.specs.Contexts.{context_of}
use Rattle.src_tree.specs.Labels.{label_at}
use Rattle.src_tree.specs.Meaning.{Store, scalar, variable_number, words_of_number}
use Rattle.scalar_ranges.specs.declared.ranges.Range.{Range}

-- a word is a number from the least to the most of a range
pub record IsIn (r : Range) (z : ℤ) : Type 0 where
  pub number : ℕ
  pub is : z ≡ pos number
  pub least : r.least ≤ number
  pub most : number ≤ r.most

-- for each variable, in the order of declaration, a range or nothing
abbrev pub Ranges : Type 0
Ranges = List (Option Range)

-- what is known of variable number k
abbrev pub range_at : Ranges → ℕ → Option Range
range_at known k = slice_index_or known k None

-- each variable of a store has a word, and each scalar of which a range is known is in that range
pub record AreWithin (known : Ranges) (store : Store) : Type 0 where
  pub words : (k : ℕ) → k < length known → 0 < length (words_of_number store k)
  pub within : (k : ℕ) (r : Range) → range_at known k ≡ Some r → IsIn r (scalar store k)

-- each range is of a public scalar, so that secret code, which doesn't assign these, keeps the store within them
pub record AreOfPublic (decls : List Decl) (known : Ranges) : Type 0 where
  pub public : (x : List ℕ) (r : Range) → range_at known (variable_number decls x) ≡ Some r
      → label_at (context_of decls) x ≡ Public
