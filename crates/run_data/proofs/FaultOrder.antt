-- In any order of variables whose names differ, an input text has the same first fault, or gives each variable the
-- same.
use Rattle.std.proofs.Common.{◌≡◌, ℕ, Bool, true, false, cond, ℤ, List, ◌∷◌, map, Option, Some, None, Ok, refl, sym, ap, ap₂, ◌∙◌, bytes_eq}
use Rattle.std.specs.Result.{result_map_both}
use Rattle.std.specs.List.Sorted.{IsPermutation}
use Rattle.std.proofs.lemmas.Slice.Eq.{bytes_eq-Decides}
use Rattle.serde_json.specs.Data.{Data, Members, no_members, member}
use Rattle.serde_json.specs.Find.{as_object}
use Rattle.gr_base.proofs.Permuted.{EachTwo}
use Rattle.gr_base.proofs.Orderless.{IsCongruence, same_permuted}
use Rattle.gr_word.specs.declared.variables.Want.{Want}
use Rattle.run_data.specs.declared.errors.InputError.{InputError}
use Rattle.run_data.specs.Prelude.{value_fault, named_fault, or_else, first_input_fault, words_given, unless_fault, inputs_of}
use Rattle.run_data.proofs.MemberOrder.{Differ}

abbrev Alike : List Want → List Want → Type 0
Alike ones others = (name : List ℕ) (value : Data) → named_fault ones name value ≡ named_fault others name value

alike : IsCongruence Alike
alike = record {
  same = λ ones name value. refl;
  goes_on = λ ones others last first second name value. first name value ∙ second name value;
  under = λ want ones others rest name value.
      ap (λ fault. cond (bytes_eq want.name name) (value_fault want value) fault) (rest name value);
}

turned : (one other : Want) (wants : List Want) → Differ one other → Alike (one ∷ other ∷ wants) (other ∷ one ∷ wants)
turned one other wants differ name value = by (bytes_eq one.name name) (bytes_eq other.name name) refl refl
  where
    is : (want : Want) → bytes_eq want.name name ≡ true → want.name ≡ name
    is want e = (bytes_eq-Decides want.name name).0 e

    by : (first second : Bool) → bytes_eq one.name name ≡ first → bytes_eq other.name name ≡ second
        → named_fault (one ∷ other ∷ wants) name value ≡ named_fault (other ∷ one ∷ wants) name value
    by true true e f = absurd (differ (is one e ∙ sym (is other f)))
    by true false e f = simp (e, f) refl
    by false true e f = simp (e, f) refl
    by false false e f = simp (e, f) refl

module _ (wants others : List Want) (permuted : IsPermutation wants others) (differ : EachTwo Differ wants) where
  fault_permuted : (members : Members) → first_input_fault wants members ≡ first_input_fault others members
  fault_permuted no_members = refl
  fault_permuted (member name value members) =
      ap₂ or_else (same_permuted Differ Alike alike turned wants others permuted differ name value)
      (fault_permuted members)

  -- what is given in the one order is given in the other, where that is what `arranged` makes of lists of words
  module _ (arranged : List (List ℤ) → List (List ℤ))
      (arranges : (words : Want → List ℤ) → arranged (map words wants) ≡ map words others) where
    in_order : (given : Members) (fault : Option InputError)
        → unless_fault fault (map (words_given given) others)
        ≡ result_map_both arranged (λ e. e) (unless_fault fault (map (words_given given) wants))
    in_order given None = ap Ok (sym (arranges (words_given given)))
    in_order given (Some fault) = refl

    pub inputs_permuted : (value : Option Data)
        → inputs_of others value ≡ result_map_both arranged (λ e. e) (inputs_of wants value)
    inputs_permuted None = refl
    inputs_permuted (Some value) = by (as_object value) refl
      where
        by : (found : Option Members) → as_object value ≡ found
            → inputs_of others (Some value) ≡ result_map_both arranged (λ e. e) (inputs_of wants (Some value))
        by None e = rw e refl
        by (Some given) e = rw (e, ← fault_permuted given) (in_order given (first_input_fault wants given))
