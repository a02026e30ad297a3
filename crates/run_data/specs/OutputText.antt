-- The text of outputs: a JSON object (RFC 8259) without white space, its names in byte order, a number for a scalar and
-- a list for an array (this project's profile).
use Rattle.std.specs.Prelude.{◌≡◌, ℕ, ℤ, pos, List, [], ◌∷◌, bytes_eq, slice_index_or}
use Rattle.std.specs.List.{list_any}
use Rattle.std.specs.List.Sorted.{IsStrictlySortedBy}
use Rattle.std.specs.Ordering.{nat_cmp, match_ordering}
use Rattle.std.specs.Cmp.Lexicographic.{slice_cmp}
use Rattle.serde_json.specs.Data.{Data, number, array, object, Items, no_items, item, Members, no_members, member}
use Rattle.serde_json.specs.Find.{of_integer}
use Rattle.serde_json.specs.Written.{compact_text}
use Rattle.gr_word.specs.declared.variables.Want.{Want}
use Rattle.gr_word.specs.declared.variables.Shape.{Shape}
use Rattle.gr_word.specs.declared.variables.Shape.TheVariants.{Scalar, Array}

abbrev pub word_value : ℤ → Data
word_value word = number (of_integer word)

abbrev pub word_items : List ℤ → Items
word_items [] = no_items
word_items (word ∷ words) = item (word_value word) (word_items words)

-- a variable's words as a value: a scalar's one word, or the list of an array's
abbrev pub shown : Shape → List ℤ → Data
shown Scalar words = word_value (slice_index_or words 0 (pos 0))
shown Array words = array (word_items words)

-- a member at its place in the byte order of names; its value takes the place of that of an equal name
abbrev pub member_placed : List ℕ → Data → Members → Members
member_placed name value no_members = member name value no_members
member_placed name value (member other found members) =
    match_ordering (slice_cmp nat_cmp name other)
    (member name value (member other found members))
    (member other value members)
    (member other found (member_placed name value members))

-- the members of the variables beside those that are there
abbrev pub members_with : Members → List Want → List (List ℤ) → Members
members_with found [] lists = found
members_with found (want ∷ wants) [] = found
members_with found (want ∷ wants) (words ∷ lists) =
    members_with (member_placed want.name (shown want.shape words) found) wants lists

abbrev pub output_of : List Want → List (List ℤ) → List ℕ
output_of wants lists = compact_text (object (members_with no_members wants lists))

-- the names of members, in order
abbrev pub names_of : Members → List (List ℕ)
names_of no_members = []
names_of (member name value members) = name ∷ names_of members

-- The names of members rise in byte order, so that none occurs twice, and they are the names of these variables.
pub record AreInOrder (wants : List Want) (members : Members) : Type 0 where
  pub rise : IsStrictlySortedBy (slice_cmp nat_cmp) (names_of members)
  pub named : (name : List ℕ)
      → list_any (bytes_eq name) (names_of members) ≡ list_any (λ want. bytes_eq name want.name) wants
