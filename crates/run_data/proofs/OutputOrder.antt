-- The names in the text of outputs rise, and are those of the variables.
use Rattle.std.proofs.Common.{◌≡◌, ℕ, ℤ, Bool, true, false, ◌||◌, List, [], ◌∷◌, length, Ordering, Less, Equal, Greater, nat_cmp, bytes_eq, refl, ap, ◌∙◌, arith}
use Rattle.std.specs.Cmp.Lexicographic.{slice_cmp}
use Rattle.std.specs.List.{AllByRecursion, list_any}
use Rattle.std.specs.List.Sorted.{IsStrictlySortedBy}
use Rattle.std.specs.Ordering.{match_ordering, ordering_reverse}
use Rattle.std.proofs.lemmas.Cmp.{nat_list_cmp_total}
use Rattle.std.proofs.lemmas.Map.Lookups.{exact_bytes}
use Rattle.serde_json.specs.Data.{Data, Members, no_members, member}
use Rattle.gr_word.specs.declared.variables.Want.{Want}
use Rattle.run_data.specs.Prelude.{AreInOrder, members_with, names_of, member_placed, shown}

abbrev Above : List ℕ → List (List ℕ) → Type 0
Above low names = AllByRecursion (λ name. slice_cmp nat_cmp low name ≡ Less) names

abbrev Rise : Members → Type 0
Rise members = IsStrictlySortedBy (slice_cmp nat_cmp) (names_of members)

above-lower : (low middle : List ℕ) (names : List (List ℕ))
    → slice_cmp nat_cmp low middle ≡ Less → Above middle names → Above low names
above-lower low middle [] less above = tt
above-lower low middle (name ∷ names) less above =
    (nat_list_cmp_total.trans low middle name less above.0, above-lower low middle names less above.1)

-- a name below all others and below a new one
placed-above : (low name : List ℕ) (value : Data) (members : Members)
    → slice_cmp nat_cmp low name ≡ Less → Above low (names_of members)
    → Above low (names_of (member_placed name value members))
placed-above low name value no_members less above = (less, tt)
placed-above low name value (member other found members) less above =
    go (slice_cmp nat_cmp name other) (placed-above low name value members less above.1)
  where
    go : (o : Ordering) → Above low (names_of (member_placed name value members))
        → Above low (names_of (match_ordering o (member name value (member other found members))
        (member other value members) (member other found (member_placed name value members))))
    go Less rest = (less, above)
    go Equal rest = above
    go Greater rest = (above.0, rest)

placed-rise : (name : List ℕ) (value : Data) (members : Members) → Rise members
    → Rise (member_placed name value members)
unfolding IsStrictlySortedBy
placed-rise name value no_members rise = (tt, tt)
placed-rise name value (member other found members) rise =
    go (slice_cmp nat_cmp name other) refl (placed-rise name value members rise.1)
  where
    go : (o : Ordering) → slice_cmp nat_cmp name other ≡ o → Rise (member_placed name value members)
        → Rise (match_ordering o (member name value (member other found members)) (member other value members)
        (member other found (member_placed name value members)))
    go Less is rest = ((is, above-lower name other (names_of members) is rise.0), rise)
    go Equal is rest = rise
    go Greater is rest =
        let less = nat_list_cmp_total.antisymm other name ∙ ap ordering_reverse is in
        (placed-above other name value members less rise.0, rest)

-- the names with a new one
placed-named : (x name : List ℕ) (value : Data) (members : Members)
    → list_any (bytes_eq x) (names_of (member_placed name value members))
    ≡ (bytes_eq x name || list_any (bytes_eq x) (names_of members))
placed-named x name value no_members = refl
placed-named x name value (member other found members) =
    go (slice_cmp nat_cmp name other) refl (placed-named x name value members)
  where
    again : (b rest : Bool) → (b || rest) ≡ (b || (b || rest))
    again true rest = refl
    again false rest = refl

    swapped : (a b rest : Bool) → (a || (b || rest)) ≡ (b || (a || rest))
    swapped true true rest = refl
    swapped true false rest = refl
    swapped false true rest = refl
    swapped false false rest = refl

    go : (o : Ordering) → slice_cmp nat_cmp name other ≡ o
        → list_any (bytes_eq x) (names_of (member_placed name value members))
        ≡ (bytes_eq x name || list_any (bytes_eq x) (names_of members))
        → list_any (bytes_eq x) (names_of (match_ordering o (member name value (member other found members))
        (member other value members) (member other found (member_placed name value members))))
        ≡ (bytes_eq x name || (bytes_eq x other || list_any (bytes_eq x) (names_of members)))
    go Less is rest = refl
    go Equal is rest = rw (exact_bytes name other is) (again (bytes_eq x other) _)
    go Greater is rest =
        ap (λ more. bytes_eq x other || more) rest ∙ swapped (bytes_eq x other) (bytes_eq x name) _

members-rise : (found : Members) (wants : List Want) (lists : List (List ℤ))
    → Rise found → Rise (members_with found wants lists)
members-rise found [] lists rise = rise
members-rise found (want ∷ wants) [] rise = rise
members-rise found (want ∷ wants) (words ∷ lists) rise =
    members-rise (member_placed want.name (shown want.shape words) found) wants lists
    (placed-rise want.name (shown want.shape words) found rise)

members-named : (x : List ℕ) (found : Members) (wants : List Want) (lists : List (List ℤ))
    → length lists ≡ length wants
    → list_any (bytes_eq x) (names_of (members_with found wants lists))
    ≡ (list_any (λ want. bytes_eq x want.name) wants || list_any (bytes_eq x) (names_of found))
members-named x found [] lists same = refl
members-named x found (want ∷ wants) [] same = absurd (omega (arith, same))
members-named x found (want ∷ wants) (words ∷ lists) same =
    let one = shown want.shape words in
    members-named x (member_placed want.name one found) wants lists (omega (arith, same))
    ∙ ap (λ rest. list_any (λ w. bytes_eq x w.name) wants || rest) (placed-named x want.name one found)
    ∙ swapped (list_any (λ w. bytes_eq x w.name) wants) (bytes_eq x want.name) _
  where
    swapped : (a b rest : Bool) → (a || (b || rest)) ≡ ((b || a) || rest)
    swapped true true rest = refl
    swapped true false rest = refl
    swapped false true rest = refl
    swapped false false rest = refl

-- the members of outputs are in order
pub members_in_order : (wants : List Want) (lists : List (List ℤ))
    → length lists ≡ length wants → AreInOrder wants (members_with no_members wants lists)
unfolding IsStrictlySortedBy
members_in_order wants lists same = record {
  rise = members-rise no_members wants lists tt;
  named = λ name. members-named name no_members wants lists same
      ∙ or_false (list_any (λ w. bytes_eq name w.name) wants);
}
  where
    or_false : (b : Bool) → (b || false) ≡ b
    or_false true = refl
    or_false false = refl
