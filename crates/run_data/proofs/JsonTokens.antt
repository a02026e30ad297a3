-- The value that begins with a token.
use Rattle.std.proofs.Common.{◌≡◌, ℕ, ◌-◌, ◌<◌, ℤ, List, [], ◌∷◌, length, Bool, true, false, Option, Some, None, option_map, refl, sym, ap, ap₂, ◌∙◌}
use Rattle.std.proofs.lemmas.Bool.{false≢true}
use Rattle.json.specs.Token.{Token}
use Rattle.json.specs.Json.{parse_map, items, members, value}
use Rattle.json.proofs.Grammar.{value_is, value-begin_array, value-begin_object}
use Rattle.serde_json.specs.Data.{Data, Num, null, boolean, number, string, array, object, no_members}
use Rattle.serde_json.specs.Find.{as_i64, as_object}
use Rattle.serde_json.specs.Read.{number_of, of_json, of_items, of_members, converted}
use Rattle.run_data.specs.Prelude.{word_of, GivenValue, a_number, another, given_of}
use Rattle.run_data.proofs.JsonReading.{converted-array, converted-object}

-- a text, true, false or null
abbrev pub is_plain : Token → Bool
is_plain (Token.string s) = true
is_plain (Token.boolean b) = true
is_plain Token.null = true
is_plain other = false

-- a value was read that is neither a list nor an object
pub record Single (depth : ℕ) (old new : List Token) (word : Option ℤ) (given : GivenValue) : Type 0 where
  pub data_is : Data
  pub was_read : converted of_json (value depth old) ≡ Some (data_is, new)
  pub has_word : word ≡ word_of data_is
  pub gives : given_of data_is ≡ given
  pub no_members_in : as_object data_is ≡ None

pub plain_read : (depth : ℕ) (t : Token) (old ts : List Token) → is_plain t ≡ true → old ≡ t ∷ ts
    → Single depth old ts None another
plain_read depth (Token.string s) old ts plain is = record {
  data_is = string s;
  was_read = ap (converted of_json) (ap (value depth) is ∙ value_is depth _);
  has_word = refl;
  gives = refl;
  no_members_in = refl;
}
plain_read depth (Token.boolean b) old ts plain is = record {
  data_is = boolean b;
  was_read = ap (converted of_json) (ap (value depth) is ∙ value_is depth _);
  has_word = refl;
  gives = refl;
  no_members_in = refl;
}
plain_read depth Token.null old ts plain is = record {
  data_is = null;
  was_read = ap (converted of_json) (ap (value depth) is ∙ value_is depth _);
  has_word = refl;
  gives = refl;
  no_members_in = refl;
}
plain_read depth other old ts plain is = absurd (false≢true plain)

abbrev read_as : List Token → Option Num → Option (Data × List Token)
read_as ts found = option_map (λ d. (d, ts)) (option_map number found)

number_token : (depth : ℕ) (s : List ℕ) (old ts : List Token) → old ≡ Token.number s ∷ ts
    → converted of_json (value depth old) ≡ read_as ts (number_of s)
number_token depth s old ts is = ap (converted of_json) (ap (value depth) is ∙ value_is depth _)

number_in : (depth : ℕ) (old ts : List Token) (word : Option ℤ) (found : Option Num)
    → converted of_json (value depth old) ≡ read_as ts found → Some word ≡ option_map as_i64 found
    → Single depth old ts word (a_number word)
number_in depth old ts word None read is = absurd (let f : ◌≡◌ {A = Option (Option ℤ)} (Some word) None = is in cc)
number_in depth old ts word (Some n) read is =
    let same : word ≡ as_i64 n = cc in
    record { data_is = number n; was_read = read; has_word = same; gives = ap a_number (sym same); no_members_in = refl }

pub number_read : (depth : ℕ) (s : List ℕ) (old ts : List Token) (word : Option ℤ) → old ≡ Token.number s ∷ ts
    → Some word ≡ option_map as_i64 (number_of s) → Single depth old ts word (a_number word)
number_read depth s old ts word is found =
    number_in depth old ts word (number_of s) (number_token depth s old ts is) found

no_number : (found : Option Num) → None ≡ option_map as_i64 found → found ≡ None
no_number None is = refl
no_number (Some n) is = absurd (let f : ◌≡◌ {A = Option (Option ℤ)} None (Some (as_i64 n)) = is in cc)

pub number_refused : (depth : ℕ) (s : List ℕ) (old ts : List Token) → old ≡ Token.number s ∷ ts
    → None ≡ option_map as_i64 (number_of s) → converted of_json (value depth old) ≡ None
number_refused depth s old ts is none =
    number_token depth s old ts is ∙ ap (read_as ts) (no_number (number_of s) none)

pub opened_array : (depth : ℕ) (old ts : List Token) → 0 < depth → old ≡ Token.begin_array ∷ ts
    → converted of_json (value depth old)
    ≡ parse_map array (converted of_items (items (value (depth - 1)) (length ts) ts))
opened_array depth old ts deep is =
    ap (converted of_json) (ap (value depth) is ∙ value-begin_array depth ts deep)
    ∙ converted-array (items (value (depth - 1)) (length ts) ts)

pub opened_object : (depth : ℕ) (old ts : List Token) → 0 < depth → old ≡ Token.begin_object ∷ ts
    → converted of_json (value depth old)
    ≡ parse_map object (converted (λ js. of_members js no_members) (members (value (depth - 1)) (length ts) ts))
opened_object depth old ts deep is =
    ap (converted of_json) (ap (value depth) is ∙ value-begin_object depth ts deep)
    ∙ converted-object (members (value (depth - 1)) (length ts) ts)

-- no list and no object may begin where no level is left
pub no_array : (depth : ℕ) (old ts : List Token) → depth ≡ 0 → old ≡ Token.begin_array ∷ ts
    → converted of_json (value depth old) ≡ None
unfolding value
no_array depth old ts none is = ap (converted of_json) (ap₂ value none is)

pub no_object : (depth : ℕ) (old ts : List Token) → depth ≡ 0 → old ≡ Token.begin_object ∷ ts
    → converted of_json (value depth old) ≡ None
unfolding value
no_object depth old ts none is = ap (converted of_json) (ap₂ value none is)

pub no_token : (depth : ℕ) (old : List Token) → old ≡ [] → converted of_json (value depth old) ≡ None
no_token depth old is = ap (converted of_json) (ap (value depth) is ∙ value_is depth [])

-- a token with which no value begins
abbrev pub is_misplaced : Token → Bool
is_misplaced Token.end_object = true
is_misplaced Token.end_array = true
is_misplaced (Token.key s) = true
is_misplaced Token.bad = true
is_misplaced other = false

nothing_read : (depth : ℕ) (t : Token) (ts : List Token) → is_misplaced t ≡ true
    → converted of_json (value depth (t ∷ ts)) ≡ None
nothing_read depth Token.end_object ts is = ap (converted of_json) (value_is depth _)
nothing_read depth Token.end_array ts is = ap (converted of_json) (value_is depth _)
nothing_read depth (Token.key s) ts is = ap (converted of_json) (value_is depth _)
nothing_read depth Token.bad ts is = ap (converted of_json) (value_is depth _)
nothing_read depth other ts is = absurd (false≢true is)

pub misplaced : (depth : ℕ) (t : Token) (old ts : List Token) → is_misplaced t ≡ true → old ≡ t ∷ ts
    → converted of_json (value depth old) ≡ None
misplaced depth t old ts wrong is = ap (λ o. converted of_json (value depth o)) is ∙ nothing_read depth t ts wrong
