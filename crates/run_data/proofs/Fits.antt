-- Inputs that were read without a fault fit the variables.
use Rattle.std.proofs.Common.{◌≡◌, ℕ, zero, suc, ◌<◌, Bool, true, false, cond, not, eqb, ℤ, pos, List, [], ◌∷◌, length, map, get_or, replicate, Option, Some, None, option_map, option_and_then, ⊎_elim, All, Ordering, Less, Equal, Greater, is_eq, nat_cmp, bytes_eq, refl, sym, ap, ◌∙◌, arith}
use Rattle.std.specs.Cmp.Lexicographic.{slice_cmp}
use Rattle.std.specs.Ordering.{match_ordering}
use Rattle.std.specs.Option.{option_map_or}
use Rattle.std.proofs.lemmas.Bool.{cases_Bool, eqb-true}
use Rattle.std.proofs.lemmas.List.{length-map, length-replicate}
use Rattle.std.proofs.lemmas.Map.Text.{is_eq-slice_cmp}
use Rattle.std.proofs.lemmas.Slice.Eq.{bytes_eq-Decides}
use Rattle.serde_json.specs.Data.{Data, Num, number, Members, no_members, member}
use Rattle.serde_json.specs.Find.{get_member, as_number}
use Rattle.gr_word.specs.declared.variables.Want.{Want}
use Rattle.gr_word.specs.declared.variables.Shape.{Shape}
use Rattle.gr_word.specs.declared.variables.Shape.TheVariants.{Scalar, Array}
use Rattle.gr_word.specs.Prelude.{AreWords, AreDistinct, AreVariables, FitsWants}
use Rattle.run_data.specs.declared.errors.InputError.{InputError}
use Rattle.run_data.specs.declared.errors.InputError.TheVariants.{WrongShape, WrongLength}
use Rattle.run_data.specs.Prelude.{has_length, list_fault, listed_values, value_fault, named_fault, or_else, first_input_fault, words_listed, words_given}

pub or_else-none : (first second : Option InputError) → or_else first second ≡ None → (first ≡ None) × (second ≡ None)
or_else-none None second is = (refl, is)
or_else-none (Some fault) second is = absurd (let f : ◌≡◌ {A = Option InputError} (Some fault) None = is in cc)

-- no fault is found at a name that the members have
no_fault_at : (o : Ordering) (wants : List Want) (name l : List ℕ) (value e : Data) (rest : Option Data)
    → slice_cmp nat_cmp name l ≡ o → named_fault wants l e ≡ None
    → (rest ≡ Some value → named_fault wants name value ≡ None) → match_ordering o rest (Some e) rest ≡ Some value
    → named_fault wants name value ≡ None
no_fault_at Less wants name l value e rest is here later found = later found
no_fault_at Equal wants name l value e rest is here later found =
    let same : name ≡ l = (bytes_eq-Decides name l).0 (sym (is_eq-slice_cmp name l) ∙ ap is_eq is) in
    let value_is : e ≡ value = cc in
    cc
no_fault_at Greater wants name l value e rest is here later found = later found

pub no_named_fault : (wants : List Want) (members : Members) (name : List ℕ) (value : Data)
    → first_input_fault wants members ≡ None → get_member name members ≡ Some value → named_fault wants name value
    ≡ None
no_named_fault wants no_members name value none found =
    absurd (let f : ◌≡◌ {A = Option Data} None (Some value) = found in cc)
no_named_fault wants (member l e members) name value none found =
    let both = or_else-none (named_fault wants l e) (first_input_fault wants members) none in
    no_fault_at (slice_cmp nat_cmp name l) wants name l value e (get_member name members) refl both.0
    (no_named_fault wants members name value both.1) found

-- where names differ, a variable's name finds that variable
finds_itself : (want : Want) (wants : List Want) (value : Data)
    → named_fault (want ∷ wants) want.name value ≡ value_fault want value
finds_itself want wants value = rw ((bytes_eq-Decides want.name want.name).1 refl) refl

passes : (b : Bool) (x y : List ℕ) → bytes_eq x y ≡ b → (x ≡ y → ⊥) → b ≡ false
passes true x y is differs = absurd (differs ((bytes_eq-Decides x y).0 is))
passes false x y is differs = refl

pub finds_its_own : (wants : List Want) → AreDistinct wants → (i : ℕ) (d : Want) (value : Data) → i < length wants
    → named_fault wants (get_or wants i d).name value ≡ value_fault (get_or wants i d) value
finds_its_own [] apart i d value within = absurd (omega arith)
finds_its_own (want ∷ wants) apart zero d value within = finds_itself want wants value
finds_its_own (want ∷ wants) apart (suc i) d value within =
    let other = get_or wants i d in
    rw (passes (bytes_eq want.name other.name) want.name other.name refl (apart.0 i d (omega arith)))
    (finds_its_own wants apart.1 i d value (omega arith))

-- A value without a fault gives a variable as many words as it has.
length_from : (shape : Shape) (name : List ℕ) (n count : ℕ) (rest : Option InputError)
    → cond (not (has_length shape n count)) (Some (WrongLength name)) rest ≡ None
    → (shape ≡ Scalar → count ≡ n) → count ≡ n
length_from Scalar name n count rest none scalar = scalar refl
length_from Array name n count rest none scalar =
    ⊎_elim (λ same. eqb-true count n same)
    (λ differs. absurd (let f : ◌≡◌ {A = Option InputError} (Some (WrongLength name)) None =
    sym (ap (λ b. cond (not b) (Some (WrongLength name)) rest) differs) ∙ none in cc))
    (cases_Bool (eqb count n))

one_number : (found : Option Num) (values : List Data)
    → option_map (λ n. number n ∷ []) found ≡ Some values → length values ≡ 1
one_number None values is = absurd (let f : ◌≡◌ {A = Option (List Data)} None (Some values) = is in cc)
one_number (Some n) values is = let same : number n ∷ [] ≡ values = cc in sym (ap length same)

scalar_has_one : (shape : Shape) (value : Data) (values : List Data) (n : ℕ)
    → listed_values shape value ≡ Some values → (shape ≡ Scalar → n ≡ 1) → shape ≡ Scalar → length values ≡ n
scalar_has_one Scalar value values n is one shape = one_number (as_number value) values is ∙ sym (one refl)
scalar_has_one Array value values n is one shape = absurd (let f : ◌≡◌ {A = Shape} Array Scalar = shape in cc)

listed_length : (want : Want) (ys : Option (List Data))
    → ((values : List Data) → ys ≡ Some values → want.shape ≡ Scalar → length values ≡ want.length)
    → option_map_or (list_fault want) ys (Some (WrongShape want.name)) ≡ None
    → length (option_map_or words_listed ys (replicate want.length (pos 0))) ≡ want.length
listed_length want None scalar none = length-replicate want.length (pos 0)
listed_length want (Some values) scalar none =
    rw length-map (length_from want.shape want.name want.length (length values) _ none (scalar values refl))

given_length : (want : Want) (found : Option Data)
    → (want.shape ≡ Scalar → want.length ≡ 1) → ((value : Data) → found ≡ Some value → value_fault want value ≡ None)
    → length (option_map_or words_listed (option_and_then (listed_values want.shape) found)
    (replicate want.length (pos 0)))
    ≡ want.length
given_length want None scalar none = length-replicate want.length (pos 0)
given_length want (Some value) scalar none =
    listed_length want (listed_values want.shape value)
    (λ values is shape. scalar_has_one want.shape value values want.length is scalar shape) (none value refl)

length_given : (members : Members) (want : Want) → (want.shape ≡ Scalar → want.length ≡ 1)
    → ((value : Data) → get_member want.name members ≡ Some value → value_fault want value ≡ None)
    → length (words_given members want) ≡ want.length
length_given members want scalar none = given_length want (get_member want.name members) scalar none

each_fits : (wants : List Want) (f : Want → List ℤ)
    → ((i : ℕ) (d : Want) → i < length wants → length (f (get_or wants i d)) ≡ (get_or wants i d).length)
    → All AreWords (map f wants) → FitsWants wants (map f wants)
each_fits [] f lengths words = tt
each_fits (want ∷ wants) f lengths words = (
  lengths 0 want (omega arith),
  words 0 [] (omega arith),
  each_fits wants f (λ i d within. lengths (suc i) d (omega arith)) (λ i d within. words (suc i) d (omega arith)),
)

-- words without a fault fit what is wanted
pub given_fits : (wants : List Want) (members : Members) → AreVariables wants → first_input_fault wants members ≡ None
    → All AreWords (map (words_given members) wants) → FitsWants wants (map (words_given members) wants)
given_fits wants members variables none words =
    each_fits wants (words_given members)
    (λ i d within.
    length_given members (get_or wants i d) (variables.scalars i d within)
    (λ value found. sym (finds_its_own wants variables.distinct i d value within)
    ∙ no_named_fault wants members (get_or wants i d).name value none found))
    words
