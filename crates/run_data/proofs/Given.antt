-- What is kept of an object's members gives variables the same words, and has the same first fault.
use Rattle.std.proofs.Common.{◌≡◌, ℕ, Bool, cond, ℤ, pos, List, [], ◌∷◌, map, replicate, Option, Some, None, Ok, Err, option_map, option_and_then, unwrap_or, is_some, is_eq, refl, sym, ap, ap₂, ◌∙◌, String, Global, Bor, Ordering, Less, Equal, Greater, string_bytes, string_cmp, nat_cmp, bytes_eq}
use Rattle.std.specs.BTreeMap.{insert_entry, is_at}
use Rattle.std.specs.Cmp.Lexicographic.{slice_cmp}
use Rattle.std.specs.List.{list_all}
use Rattle.std.specs.Map.{lookup}
use Rattle.std.specs.Option.{option_copied, option_map_or}
use Rattle.std.specs.Ordering.{match_ordering}
use Rattle.std.proofs.Math.Bool.{and-true}
use Rattle.std.proofs.lemmas.List.{length-map}
use Rattle.serde_json.specs.Data.{Data, Num, null, boolean, number, string, array, object, Members, no_members, member, put}
use Rattle.serde_json.specs.Find.{as_i64, as_object, get_member}
use Rattle.gr_word.specs.declared.variables.Want.{Want}
use Rattle.gr_word.specs.declared.variables.Shape.{Shape}
use Rattle.gr_word.specs.declared.variables.Shape.TheVariants.{Scalar, Array}
use Rattle.run_data.specs.declared.errors.InputError.{InputError}
use Rattle.run_data.specs.declared.errors.InputError.TheVariants.{NotAnObject, WrongShape}
use Rattle.run_data.specs.declared.members.Given.{Given}
use Rattle.run_data.specs.Prelude.{is_word, listed_values, list_fault, value_fault, named_fault, or_else, first_input_fault, words_listed, words_given, unless_fault, inputs_in, inputs_of, GivenValue, given_of, given_view, given_members, least_given, entries_view, given_values, given_list_fault, given_value_fault, given_named_fault, first_given_fault, find_given, given_words}

-- the words of a list of values, and whether all of them are words
abbrev summed : List Data → List ℤ × Bool
summed values = (words_listed values, list_all is_word values)

one_number : (n : Num) → summed (number n ∷ []) ≡ (unwrap_or (as_i64 n) (pos 0) ∷ [], is_some (as_i64 n))
one_number n = ap (λ b. (unwrap_or (as_i64 n) (pos 0) ∷ [], b)) (and-true (is_some (as_i64 n)))

values_kept : (shape : Shape) (value : Data)
    → given_values shape (given_of value) ≡ option_map summed (listed_values shape value)
values_kept Scalar null = refl
values_kept Scalar (boolean b) = refl
values_kept Scalar (number n) = ap Some (sym (one_number n))
values_kept Scalar (string s) = refl
values_kept Scalar (array items) = refl
values_kept Scalar (object _) = refl
values_kept Array null = refl
values_kept Array (boolean b) = refl
values_kept Array (number n) = refl
values_kept Array (string s) = refl
values_kept Array (array items) = refl
values_kept Array (object _) = refl

list_fault_kept : (want : Want) (values : List Data) → given_list_fault want (summed values) ≡ list_fault want values
list_fault_kept want values = rw length-map refl

option_fault_kept : (want : Want) (values : Option (List Data))
    → option_map_or (given_list_fault want) (option_map summed values) (Some (WrongShape want.name))
    ≡ option_map_or (list_fault want) values (Some (WrongShape want.name))
option_fault_kept want None = refl
option_fault_kept want (Some values) = list_fault_kept want values

pub value_fault_kept : (want : Want) (value : Data)
    → given_value_fault want (given_of value) ≡ value_fault want value
value_fault_kept want value =
    ap (λ o. option_map_or (given_list_fault want) o (Some (WrongShape want.name))) (values_kept want.shape value)
    ∙ option_fault_kept want (listed_values want.shape value)

pub named_fault_kept : (wants : List Want) (name : List ℕ) (value : Data)
    → given_named_fault wants name (given_of value) ≡ named_fault wants name value
named_fault_kept [] name value = refl
named_fault_kept (want ∷ wants) name value =
    ap₂ (λ a b. cond (bytes_eq want.name name) a b) (value_fault_kept want value) (named_fault_kept wants name value)

pub first_fault_kept : (wants : List Want) (members : Members)
    → first_given_fault wants (given_members members) ≡ first_input_fault wants members
first_fault_kept wants no_members = refl
first_fault_kept wants (member name value members) =
    ap₂ or_else (named_fault_kept wants name value) (first_fault_kept wants members)

found_by : (o : Ordering) (value : Data) (rest : Option GivenValue) (more : Option Data) → rest ≡ option_map given_of more
    → match_ordering o rest (Some (given_of value)) rest ≡ option_map given_of (match_ordering o more (Some value) more)
found_by Less value rest more is = is
found_by Equal value rest more is = refl
found_by Greater value rest more is = is

find_kept : (name : List ℕ) (members : Members)
    → find_given name (given_members members) ≡ option_map given_of (get_member name members)
find_kept name no_members = refl
find_kept name (member l value members) =
    found_by (slice_cmp nat_cmp name l) value _ _ (find_kept name members)

words_summed : (zeros : List ℤ) (values : Option (List Data))
    → option_map_or (λ listed. listed.0) (option_map summed values) zeros ≡ option_map_or words_listed values zeros
words_summed zeros None = refl
words_summed zeros (Some values) = refl

words_of : (shape : Shape) (zeros : List ℤ) (found : Option Data)
    → option_map_or (λ listed. listed.0) (option_and_then (given_values shape) (option_map given_of found)) zeros
    ≡ option_map_or words_listed (option_and_then (listed_values shape) found) zeros
words_of shape zeros None = refl
words_of shape zeros (Some value) =
    ap (λ o. option_map_or (λ listed. listed.0) o zeros) (values_kept shape value)
    ∙ words_summed zeros (listed_values shape value)

pub words_kept : (members : Members) (want : Want)
    → given_words (given_members members) want ≡ words_given members want
words_kept members want =
    ap (λ o. option_map_or (λ listed. listed.0) (option_and_then (given_values want.shape) o)
    (replicate want.length (pos 0))) (find_kept want.name members)
    ∙ words_of want.shape (replicate want.length (pos 0)) (get_member want.name members)

pub all_words_kept : (members : Members) (wants : List Want)
    → map (given_words (given_members members)) wants ≡ map (words_given members) wants
all_words_kept _ [] = refl
all_words_kept members (want ∷ wants) = ap₂ (λ w ws. w ∷ ws) (words_kept members want) (all_words_kept members wants)

-- ---- the map of what is kept

abbrev pub put_given : List ℕ → GivenValue → List (List ℕ × GivenValue) → List (List ℕ × GivenValue)
put_given name value [] = (name, value) ∷ []
put_given name value (m ∷ members) =
    match_ordering (slice_cmp nat_cmp name m.0) ((name, value) ∷ m ∷ members) ((m.0, value) ∷ members)
    (m ∷ put_given name value members)

members-match : (o : Ordering) (a b c : Members)
    → given_members (match_ordering o a b c)
    ≡ match_ordering o (given_members a) (given_members b) (given_members c)
members-match Less a b c = refl
members-match Equal a b c = refl
members-match Greater a b c = refl

pub put_kept : (name : List ℕ) (value : Data) (members : Members)
    → given_members (put name value members) ≡ put_given name (given_of value) (given_members members)
put_kept name value no_members = refl
put_kept name value (member l e members) =
    members-match (slice_cmp nat_cmp name l) _ _ _ ∙ rw (put_kept name value members) refl

entries-match : (o : Ordering) (a b c : List (String Global × Given))
    → entries_view (match_ordering o a b c) ≡ match_ordering o (entries_view a) (entries_view b) (entries_view c)
entries-match Less a b c = refl
entries-match Equal a b c = refl
entries-match Greater a b c = refl

pub insert_kept : (entries : List (String Global × Given)) (key : String Global) (value : Given)
    → entries_view (insert_entry string_cmp entries key value)
    ≡ put_given (string_bytes key) (given_view value) (entries_view entries)
insert_kept [] key value = refl
insert_kept (e ∷ entries) key value =
    entries-match (string_cmp key e.0) _ _ _ ∙ rw (insert_kept entries key value) refl

looked_by : (o : Ordering) (value : Given) (rest : Option Given) (more : Option GivenValue)
    → option_map given_view rest ≡ more
    → option_map given_view (cond (is_eq o) (Some value) rest) ≡ match_ordering o more (Some (given_view value)) more
looked_by Less value rest more is = is
looked_by Equal value rest more is = refl
looked_by Greater value rest more is = is

lookup_kept : (name : List ℕ) (entries : List (String Global × Given))
    → option_map given_view (lookup (is_at (λ k. slice_cmp nat_cmp name (string_bytes k))) entries)
    ≡ find_given name (entries_view entries)
lookup_kept name [] = refl
lookup_kept name (e ∷ entries) =
    looked_by (slice_cmp nat_cmp name (string_bytes e.0)) e.1 _ _ (lookup_kept name entries)

-- what the map finds at a name is what the object gives there
pub given_at : (name : List ℕ) (entries : List (String Global × Given)) (r found : Option (Bor Given))
    → option_copied r ≡ lookup (is_at (λ k. slice_cmp nat_cmp name (string_bytes k))) entries → r ≡ found
    → find_given name (entries_view entries) ≡ option_map given_view (option_copied found)
given_at name entries r found looked is =
    sym (lookup_kept name entries) ∙ ap (option_map given_view) (sym looked ∙ ap option_copied is)

-- ---- the inputs

object_in : (most : ℕ) (o found : Option Members) (members : List (List ℕ × GivenValue))
    → o ≡ found → option_map (least_given most) found ≡ Some members
    → (ms : Members) × (o ≡ Some ms) × (least_given most ms ≡ members)
object_in most o None members at is =
    absurd (let f : ◌≡◌ {A = Option (List (List ℕ × GivenValue))} None (Some members) = is in cc)
object_in most o (Some ms) members at is = (ms, at, cc)

pub object_kept : (most : ℕ) (value : Data) (members : List (List ℕ × GivenValue))
    → option_map (least_given most) (as_object value) ≡ Some members
    → (ms : Members) × (as_object value ≡ Some ms) × (least_given most ms ≡ members)
object_kept most value members is = object_in most (as_object value) (as_object value) members refl is

pub inputs_at : (wants : List Want) (value : Data) (ms : Members) → as_object value ≡ Some ms
    → inputs_of wants (Some value) ≡ inputs_in wants ms
inputs_at wants value ms is = ap (λ o. option_map_or (inputs_in wants) o (Err NotAnObject)) is

-- an object whose first fault is known gives that fault
pub faulty_inputs : (wants : List Want) (ms : Members) (fault : InputError)
    → first_given_fault wants (given_members ms) ≡ Some fault → inputs_in wants ms ≡ Err fault
faulty_inputs wants ms fault is =
    ap (λ o. unless_fault o (map (words_given ms) wants)) (sym (first_fault_kept wants ms) ∙ is)

-- an object without a fault gives the words
pub faultless_inputs : (wants : List Want) (ms : Members) (inputs : List (List ℤ))
    → first_given_fault wants (given_members ms) ≡ None → inputs ≡ map (given_words (given_members ms)) wants
    → inputs_in wants ms ≡ Ok inputs
faultless_inputs wants ms inputs none is =
    ap (λ o. unless_fault o (map (words_given ms) wants)) (sym (first_fault_kept wants ms) ∙ none)
    ∙ ap Ok (sym (all_words_kept ms wants) ∙ sym is)
