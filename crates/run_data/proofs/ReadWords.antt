-- What an input text gives variables fits them: an integer that was read and is one of 64 bits is a word.
use Rattle.std.proofs.Common.{Float, get_or, ◌≡◌, ℕ, zero, suc, ◌^◌, ◌≤◌, Bool, true, false, cond, nat_lt, ℤ, pos, negsuc, neg_ℤ, List, [], ◌∷◌, map, replicate, length, Option, Some, None, option_map, option_and_then, if◌then◌else◌, ◌&&◌, nat_le, unwrap_or, Result, Ok, Err, Ordering, Less, Equal, Greater, nat_cmp, refl, subst, arith, All}
use Rattle.std.specs.Option.{option_map_or}
use Rattle.std.specs.Ordering.{match_ordering}
use Rattle.std.specs.Cmp.Lexicographic.{slice_cmp}
use Rattle.std.specs.Str.{is_utf8}
use Rattle.std.proofs.lemmas.Bool.{ltb-true, leb-true}
use Rattle.std.proofs.lemmas.List.Elements.{All-map, All-replicate}
use Rattle.json.specs.Lex.{tokens}
use Rattle.serde_json.specs.Data.{Num, unsigned, negative, float, Data, null, boolean, number, string, array, object, Items, no_items, item, Members, no_members, member, put}
use Rattle.serde_json.specs.Find.{as_i64, as_object, get_member}
use Rattle.serde_json.specs.Read.{max_depth, number_of, of_json, of_items, of_members, read}
use Rattle.gr_word.specs.Prelude.{IsWord, AreWords, AreVariables, FitsWants}
use Rattle.gr_word.specs.declared.variables.Want.{Want}
use Rattle.gr_word.specs.declared.variables.Shape.{Shape}
use Rattle.gr_word.specs.declared.variables.Shape.TheVariants.{Scalar, Array}
use Rattle.run_data.specs.declared.errors.InputError.{InputError}
use Rattle.run_data.specs.declared.errors.InputError.TheVariants.{BadJson, NotAnObject}
use Rattle.run_data.specs.Prelude.{json_of, word_of, list_of, listed_values, first_input_fault, words_listed, words_given, unless_fault, inputs_of}
use Rattle.run_data.proofs.Fits.{given_fits}
use Rattle.json.specs.Json as json

-- a number is a word if it is an integer of 64 bits
abbrev Fits : Num → Type 0
Fits n = (z : ℤ) → as_i64 n ≡ Some z → IsWord z

-- all numbers in a value are
abbrev mutual
  Holds : Data → Type 0
  Holds null = Unit {0}
  Holds (boolean b) = Unit {0}
  Holds (number n) = Fits n
  Holds (string s) = Unit {0}
  Holds (array items) = HoldItems items
  Holds (object given) = HoldMembers given

  HoldItems : Items → Type 0
  HoldItems no_items = Unit {0}
  HoldItems (item d items) = Holds d × HoldItems items

  HoldMembers : Members → Type 0
  HoldMembers no_members = Unit {0}
  HoldMembers (member name d given) = Holds d × HoldMembers given

some_is : {X : Type 0} (P : X → Type 0) (x y : X) → Some x ≡ Some y → P x → P y
some_is P x y e holds = subst P (let same : x ≡ y = cc in same) holds

unsigned_fits : (n : ℕ) → Fits (unsigned n)
unsigned_fits n z is = by (nat_lt n (2 ^ 63)) refl is
  where
    by : (b : Bool) → nat_lt n (2 ^ 63) ≡ b → cond b (Some (pos n)) None ≡ Some z → IsWord z
    by true low e = let below = ltb-true n (2 ^ 63) low in some_is IsWord (pos n) z e (omega (arith, below))
    by false low e = absurd (let f : ◌≡◌ {A = Option ℤ} None (Some z) = e in cc)

negative_fits : (n : ℕ) → n ≤ 2 ^ 63 → Fits (negative (neg_ℤ (pos n)))
negative_fits zero low z is = some_is IsWord (pos 0) z is (omega arith)
negative_fits (suc n) low z is = some_is IsWord (negsuc n) z is (omega (arith, low))

-- a number that is found is one
abbrev Finds : Option Num → Type 0
Finds found = (n : Num) → found ≡ Some n → Fits n

float_found : (b : Bool) (x : Float) → Finds (if b then Some (float x) else None)
float_found true x n e =
    some_is Fits (float x) n e (λ z f. absurd (let g : ◌≡◌ {A = Option ℤ} None (Some z) = f in cc))
float_found false x n e = absurd (let f : ◌≡◌ {A = Option Num} None (Some n) = e in cc)

unsigned_found : (b : Bool) (k : ℕ) (other : Option Num)
    → Finds other → Finds (if b then Some (unsigned k) else other)
unsigned_found true k other finds n e = some_is Fits (unsigned k) n e (unsigned_fits k)
unsigned_found false k other finds n e = finds n e

negative_found : (a : Bool) (k : ℕ) (other : Option Num)
    → Finds other → Finds (if a && nat_le k (2 ^ 63) then Some (negative (neg_ℤ (pos k))) else other)
negative_found false k other finds n e = finds n e
negative_found true k other finds n e = by (nat_le k (2 ^ 63)) refl e
  where
    by : (b : Bool) → nat_le k (2 ^ 63) ≡ b → (if b then Some (negative (neg_ℤ (pos k))) else other) ≡ Some n → Fits n
    by true low f = some_is Fits (negative (neg_ℤ (pos k))) n f (negative_fits k (leb-true k (2 ^ 63) low))
    by false low f = finds n f

either_found : (b : Bool) (one other : Option Num) → Finds one → Finds other → Finds (if b then one else other)
either_found true one other first second = first
either_found false one other first second = second

number_found : (text : List ℕ) → Finds (number_of text)
unfolding number_of
number_found text n e = search (either_found, negative_found, unsigned_found, float_found)

-- a member is added to others
put_holds : (name : List ℕ) (d : Data) (found : Members) → Holds d → HoldMembers found → HoldMembers (put name d found)
put_holds name d no_members one others = (one, tt)
put_holds name d (member other e rest) one others =
    by (slice_cmp nat_cmp name other) (put_holds name d rest one others.1)
  where
    by : (o : Ordering) → HoldMembers (put name d rest)
        → HoldMembers (match_ordering o (member name d (member other e rest)) (member other d rest)
        (member other e (put name d rest)))
    by Less later = (one, others)
    by Equal later = (one, others.1)
    by Greater later = (others.0, later)

some_map : {X Y : Type 0} (P : Y → Type 0) (f : X → Y) (found : Option X) (y : Y) → option_map f found ≡ Some y
    → ((x : X) → found ≡ Some x → P (f x)) → P y
some_map P f None y e each = absurd (let g : ◌≡◌ {A = Option _} None (Some y) = e in cc)
some_map P f (Some x) y e each = some_is P (f x) y e (each x refl)

some_then : {X Y : Type 0} (P : Type 0) (f : X → Option Y) (found : Option X) (y : Y) → option_and_then f found ≡ Some y
    → ((x : X) → found ≡ Some x → f x ≡ Some y → P) → P
some_then P f None y e each = absurd (let g : ◌≡◌ {A = Option _} None (Some y) = e in cc)
some_then P f (Some x) y e each = each x refl e

mutual
  value_holds : (j : json.Json) (d : Data) → of_json j ≡ Some d → Holds d
  value_holds json.null d e = some_is Holds null d e tt
  value_holds (json.boolean b) d e = some_is Holds (boolean b) d e tt
  value_holds (json.number s) d e = some_map Holds number (number_of s) d e (number_found s)
  value_holds (json.string s) d e = some_is Holds (string s) d e tt
  value_holds (json.array js) d e = some_map Holds array (of_items js) d e (λ items is. items_hold js items is)
  value_holds (json.object ms) d e =
      some_map Holds object (of_members ms no_members) d e (λ given is. members_hold ms no_members given tt is)

  items_hold : (js : json.Items) (items : Items) → of_items js ≡ Some items → HoldItems items
  items_hold json.no_items items e = some_is HoldItems no_items items e tt
  items_hold (json.item j js) items e =
      some_then (HoldItems items) (λ d. option_map (item d) (of_items js)) (of_json j) items e (λ d is f.
      some_map HoldItems (item d) (of_items js) items f (λ rest more. (value_holds j d is, items_hold js rest more)))

  members_hold : (ms : json.Members) (found given : Members)
      → HoldMembers found → of_members ms found ≡ Some given → HoldMembers given
  members_hold json.no_members found given holds e = some_is HoldMembers found given e holds
  members_hold (json.member k j ms) found given holds e =
      some_then (HoldMembers given) (λ d. of_members ms (put k d found)) (of_json j) given e (λ d is f.
      members_hold ms (put k d found) given (put_holds k d found (value_holds j d is) holds) f)

json_holds : (text : List ℕ) (d : Data) → json_of text ≡ Some d → Holds d
json_holds text d is = by (is_utf8 text) is
  where
    by : (b : Bool) → (if b then read text else None) ≡ Some d → Holds d
    by true e =
        some_then (Holds d) of_json (option_and_then (λ p. json.if_last p.0 p.1) (json.value max_depth (tokens text))) d
        e (λ j found f. value_holds j d f)
    by false e = absurd (let f : ◌≡◌ {A = Option Data} None (Some d) = e in cc)

-- the words of what a text gives
abbrev word : Data → ℤ
word d = unwrap_or (word_of d) (pos 0)

word_in : (d : Data) → Holds d → IsWord (word d)
word_in (number n) holds = by (as_i64 n) holds
  where
    by : (found : Option ℤ) → ((z : ℤ) → found ≡ Some z → IsWord z) → IsWord (unwrap_or found (pos 0))
    by None each = omega arith
    by (Some z) each = each z refl
word_in value holds = omega arith

items_in : (items : Items) → HoldItems items → All (λ d. IsWord (word d)) (list_of items)
items_in no_items holds i d within = absurd (omega (arith, within))
items_in (item first items) holds zero d within = word_in first holds.0
items_in (item first items) holds (suc i) d within = items_in items holds.1 i d (omega (arith, within))

module _ (n : ℕ) where
  zeros : AreWords (replicate n (pos 0))
  zeros = All-replicate IsWord n (pos 0) (omega arith)

  each_listed : (shape : Shape) (value : Data) → Holds value
      → AreWords (option_map_or words_listed (listed_values shape value) (replicate n (pos 0)))
  each_listed Scalar (number m) holds =
      All-map IsWord word (number m ∷ []) (items_in (item (number m) no_items) (holds, tt))
  each_listed Array (array items) holds = All-map IsWord word (list_of items) (items_in items holds)
  each_listed Scalar value holds = zeros
  each_listed Array value holds = zeros

found_holds : (name : List ℕ) (given : Members) (value : Data)
    → HoldMembers given → get_member name given ≡ Some value → Holds value
found_holds name no_members value holds e = absurd (let f : ◌≡◌ {A = Option Data} None (Some value) = e in cc)
found_holds name (member other d rest) value holds e =
    by (slice_cmp nat_cmp name other) (found_holds name rest value holds.1) e
  where
    by : (o : Ordering) → (get_member name rest ≡ Some value → Holds value)
        → match_ordering o (get_member name rest) (Some d) (get_member name rest) ≡ Some value → Holds value
    by Less later f = later f
    by Equal later f = some_is Holds d value f holds.0
    by Greater later f = later f

words_fit : (given : Members) → HoldMembers given → (want : Want) → AreWords (words_given given want)
words_fit given holds want = by (get_member want.name given) refl
  where
    by : (found : Option Data) → get_member want.name given ≡ found
        → AreWords (option_map_or words_listed (option_and_then (listed_values want.shape) found)
        (replicate want.length (pos 0)))
    by None e = zeros want.length
    by (Some value) e =
        each_listed want.length want.shape value (found_holds want.name given value holds e)

object_holds : (value : Data) (given : Members) → Holds value → as_object value ≡ Some given → HoldMembers given
object_holds (object found) given holds e = some_is HoldMembers found given e holds
object_holds value given holds e = absurd (let f : ◌≡◌ {A = Option Members} None (Some given) = e in cc)

ok_is : {X E : Type 0} (P : X → Type 0) (x y : X) → ◌≡◌ {A = Result X E} (Ok x) (Ok y) → P x → P y
ok_is P x y e holds = subst P (let same : x ≡ y = cc in same) holds

-- what a text gives variables fits them
pub inputs_fit : (wants : List Want) (text : List ℕ) (inputs : List (List ℤ)) → AreVariables wants
    → inputs_of wants (json_of text) ≡ Ok inputs → FitsWants wants inputs
inputs_fit wants text inputs variables is = by_value (json_of text) refl is
  where
    by_fault : (given : Members) → HoldMembers given → (fault : Option InputError) → first_input_fault wants given
        ≡ fault
        → unless_fault fault (map (words_given given) wants) ≡ Ok inputs → FitsWants wants inputs
    by_fault given holds None none e =
        ok_is (FitsWants wants) (map (words_given given) wants) inputs e
        (given_fits wants given variables none
        (All-map AreWords (words_given given) wants (λ i d within. words_fit given holds (get_or wants i d))))
    by_fault given holds (Some fault) none e =
        absurd (let f : ◌≡◌ {A = Result (List (List ℤ)) InputError} (Err fault) (Ok inputs) = e in cc)

    by_object : (value : Data) → Holds value → (found : Option Members) → as_object value ≡ found
        → option_map_or (λ given. unless_fault (first_input_fault wants given) (map (words_given given) wants)) found
        (Err NotAnObject) ≡ Ok inputs
        → FitsWants wants inputs
    by_object value holds None none e =
        absurd (let f : ◌≡◌ {A = Result (List (List ℤ)) InputError} (Err NotAnObject) (Ok inputs) = e in cc)
    by_object value holds (Some given) found e =
        by_fault given (object_holds value given holds found) (first_input_fault wants given) refl e

    by_value : (found : Option Data) → json_of text ≡ found → inputs_of wants found ≡ Ok inputs → FitsWants wants inputs
    by_value None none e =
        absurd (let f : ◌≡◌ {A = Result (List (List ℤ)) InputError} (Err BadJson) (Ok inputs) = e in cc)
    by_value (Some value) found e =
        by_object value (json_holds text value found) (as_object value) refl e
