-- For proofs and private clauses: what a JSON value gives a variable, the word of a number and the words of a list.
use Rattle.std.specs.Prelude.{ℕ, Bool, if◌then◌else◌, not, bytes_eq, ℤ, pos, List, [], ◌∷◌, length, map, take, replicate, Option, Some, None, option_and_then, unwrap_or, is_some, String, string_bytes}
use Rattle.std.specs.List.{list_all}
use Rattle.std.specs.Option.{option_map_or}
use Rattle.std.specs.Ordering.{nat_cmp, match_ordering}
use Rattle.std.specs.Cmp.Lexicographic.{slice_cmp}
use Rattle.std.specs.declared.alloc.Global.{Global}
use Rattle.serde_json.specs.Data.{Data, null, boolean, number, string, array, object, Members, no_members, member}
use Rattle.serde_json.specs.Find.{as_i64}
use Rattle.gr_word.specs.declared.variables.Want.{Want}
use Rattle.gr_word.specs.declared.variables.Shape.{Shape}
use Rattle.gr_word.specs.declared.variables.Shape.TheVariants.{Scalar, Array}
use Rattle.run_data.specs.declared.errors.InputError.{InputError}
use Rattle.run_data.specs.declared.errors.InputError.TheVariants.{UnknownName, WrongShape, WrongLength, NotAWord}
use Rattle.run_data.specs.declared.members.Given.{Given}
use Rattle.run_data.specs.InputsOf.{list_of, is_word, words_listed, has_length, or_else}
use Rattle.run_data.specs.declared.members.Given.TheVariants as given

pub data GivenValue : Type 0 where
  a_number : Option ℤ → GivenValue
  a_list : List ℤ → Bool → GivenValue
  another : GivenValue

abbrev pub given_of : Data → GivenValue
given_of null = another
given_of (boolean _) = another
given_of (number n) = a_number (as_i64 n)
given_of (string _) = another
given_of (array items) = a_list (words_listed (list_of items)) (list_all is_word (list_of items))
given_of (object _) = another

abbrev pub given_view : Given → GivenValue
given_view (given.Number word) = a_number word
given_view (given.Items l) = a_list l.words.items l.are_words
given_view given.Other = another

-- the members of an object, by name
abbrev pub given_members : Members → List (List ℕ × GivenValue)
given_members no_members = []
given_members (member name value members) = (name, given_of value) ∷ given_members members

-- the first members of an object, in the byte order of their names
abbrev pub least_given : ℕ → Members → List (List ℕ × GivenValue)
least_given most members = take most (given_members members)

abbrev pub entries_view : List (String Global × Given) → List (List ℕ × GivenValue)
entries_view entries = map (λ e. (string_bytes e.0, given_view e.1)) entries

-- what a value lists for a variable of a shape, and whether all of it are words
abbrev pub given_values : Shape → GivenValue → Option (List ℤ × Bool)
given_values Scalar (a_number word) = Some (unwrap_or word (pos 0) ∷ [], is_some word)
given_values Scalar (a_list words are_words) = None
given_values Scalar another = None
given_values Array (a_number word) = None
given_values Array (a_list words are_words) = Some (words, are_words)
given_values Array another = None

abbrev pub given_list_fault : Want → List ℤ × Bool → Option InputError
given_list_fault want listed =
    if not (has_length want.shape want.length (length listed.0)) then Some (WrongLength want.name)
    else (if listed.1 then None else Some (NotAWord want.name))

abbrev pub given_value_fault : Want → GivenValue → Option InputError
given_value_fault want value =
    option_map_or (given_list_fault want) (given_values want.shape value) (Some (WrongShape want.name))

abbrev pub given_named_fault : List Want → List ℕ → GivenValue → Option InputError
given_named_fault [] name value = Some (UnknownName name)
given_named_fault (want ∷ wants) name value =
    if bytes_eq want.name name then given_value_fault want value else given_named_fault wants name value

abbrev pub first_given_fault : List Want → List (List ℕ × GivenValue) → Option InputError
first_given_fault wants [] = None
first_given_fault wants (m ∷ members) = or_else (given_named_fault wants m.0 m.1) (first_given_fault wants members)

abbrev pub find_given : List ℕ → List (List ℕ × GivenValue) → Option GivenValue
find_given name [] = None
find_given name (m ∷ members) =
    match_ordering (slice_cmp nat_cmp name m.0) (find_given name members) (Some m.1) (find_given name members)

-- the words that the members give a variable: zeros where they don't name it
abbrev pub given_words : List (List ℕ × GivenValue) → Want → List ℤ
given_words members want =
    option_map_or (λ listed. listed.0) (option_and_then (given_values want.shape) (find_given want.name members))
    (replicate want.length (pos 0))
