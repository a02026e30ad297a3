-- What the text of an input file gives for some variables: a JSON object (RFC 8259) with a number for a scalar and a
-- list of numbers for an array (this project's profile). A variable that isn't named starts as zeros.
use Rattle.std.specs.Prelude.{ℕ, Bool, true, ◌==◌, if◌then◌else◌, not, bytes_eq, ℤ, pos, List, [], ◌∷◌, length, map, replicate, Option, Some, None, option_map, option_and_then, unwrap_or, is_some, Result, Ok, Err}
use Rattle.std.specs.List.{list_all}
use Rattle.std.specs.Option.{option_map_or}
use Rattle.std.specs.Str.{is_utf8}
use Rattle.serde_json.specs.Data.{Data, Items, no_items, item, Members, no_members, member, number}
use Rattle.serde_json.specs.Find.{as_number, as_array, as_object, as_i64, get_member}
use Rattle.serde_json.specs.Read.{read}
use Rattle.gr_word.specs.declared.variables.Want.{Want}
use Rattle.gr_word.specs.declared.variables.Shape.{Shape}
use Rattle.gr_word.specs.declared.variables.Shape.TheVariants.{Scalar, Array}
use Rattle.run_data.specs.declared.errors.InputError.{InputError}
use Rattle.run_data.specs.declared.errors.InputError.TheVariants.{BadJson, NotAnObject, UnknownName, WrongShape, WrongLength, NotAWord}

-- the JSON value that bytes encode, if they are text that encodes one
-- Rule: input/json.
abbrev pub json_of : List ℕ → Option Data
json_of bytes = if is_utf8 bytes then read bytes else None

-- the word that a value is, if it is an integer of 64 bits
abbrev pub word_of : Data → Option ℤ
word_of value = option_and_then as_i64 (as_number value)

abbrev pub is_word : Data → Bool
is_word value = is_some (word_of value)

abbrev pub list_of : Items → List Data
list_of no_items = []
list_of (item value items) = value ∷ list_of items

-- What a value lists for a variable of a shape: a number is one, and a list has its elements. Nothing else fits.
abbrev pub listed_values : Shape → Data → Option (List Data)
listed_values Scalar value = option_map (λ n. number n ∷ []) (as_number value)
listed_values Array value = option_map list_of (as_array value)

-- an array takes exactly its length
abbrev pub has_length : Shape → ℕ → ℕ → Bool
has_length Scalar wanted count = true
has_length Array wanted count = count == wanted

-- what is wrong with what is listed for a variable: the length goes before the words
-- Rules: input/length, input/word.
abbrev pub list_fault : Want → List Data → Option InputError
list_fault want values =
    if not (has_length want.shape want.length (length values)) then Some (WrongLength want.name)
    else (if list_all is_word values then None else Some (NotAWord want.name))

-- what is wrong with a variable's value: the shape goes first
-- Rule: input/shape.
abbrev pub value_fault : Want → Data → Option InputError
value_fault want value = option_map_or (list_fault want) (listed_values want.shape value) (Some (WrongShape want.name))

-- what is wrong with a named value: no variable with this name goes first
-- Rule: input/unknown.
abbrev pub named_fault : List Want → List ℕ → Data → Option InputError
named_fault [] name value = Some (UnknownName name)
named_fault (want ∷ wants) name value =
    if bytes_eq want.name name then value_fault want value else named_fault wants name value

abbrev pub or_else : Option InputError → Option InputError → Option InputError
or_else None other = other
or_else (Some fault) other = Some fault

-- the first fault of an object's members, which are in the byte order of their names
abbrev pub first_input_fault : List Want → Members → Option InputError
first_input_fault wants no_members = None
first_input_fault wants (member name value members) = or_else (named_fault wants name value)
    (first_input_fault wants members)

-- the words of values, 0 for one that isn't a word
abbrev pub words_listed : List Data → List ℤ
words_listed values = map (λ value. unwrap_or (word_of value) (pos 0)) values

-- the words that the members give a variable: zeros where they don't name it
abbrev pub words_given : Members → Want → List ℤ
words_given members want =
    option_map_or words_listed (option_and_then (listed_values want.shape) (get_member want.name members))
    (replicate want.length (pos 0))

abbrev pub unless_fault : Option InputError → List (List ℤ) → Result (List (List ℤ)) InputError
unless_fault None lists = Ok lists
unless_fault (Some fault) lists = Err fault

abbrev pub inputs_in : List Want → Members → Result (List (List ℤ)) InputError
inputs_in wants members = unless_fault (first_input_fault wants members) (map (words_given members) wants)

-- the inputs that a value gives, or its first fault
-- Rule: input/object.
abbrev pub inputs_of : List Want → Option Data → Result (List (List ℤ)) InputError
inputs_of wants None = Err BadJson
inputs_of wants (Some value) = option_map_or (inputs_in wants) (as_object value) (Err NotAnObject)
