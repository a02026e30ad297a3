-- The members with the least names, one more than there are variables, have the first fault of all members.
use Rattle.std.proofs.Common.{◌≡◌, ℕ, zero, suc, ◌+◌, ◌≤◌, Bool, true, false, cond, ◌||◌, List, [], ◌∷◌, length, map, take, Option, Some, None, refl, sym, ap, ap₂, ◌∙◌, String, Global, Ordering, Less, Equal, Greater, string_bytes, string_cmp, nat_cmp, bytes_eq, arith}
use Rattle.std.specs.BTreeMap.{insert_entry}
use Rattle.std.specs.Cmp.Lexicographic.{slice_cmp}
use Rattle.std.specs.List.{AllByRecursion, IsDistinct, list_any}
use Rattle.std.specs.List.Sorted.{IsStrictlySortedBy}
use Rattle.std.specs.Map.{keys_of}
use Rattle.std.specs.Ordering.{eq_by_cmp, match_ordering}
use Rattle.std.proofs.lemmas.Cmp.{eq_by_cmp_equiv, nat_list_cmp_total}
use Rattle.std.proofs.lemmas.List.{length-map, length-take, take-map, take-take, take_all}
use Rattle.std.proofs.lemmas.Map.Keys.{IsDistinct-cons, IsDistinct-from_sorted, IsDistinct-head, IsDistinct-tail}
use Rattle.std.proofs.lemmas.Map.Made.{length-le_from_is_member}
use Rattle.std.proofs.lemmas.Map.Steps.{list_any_congr}
use Rattle.std.proofs.lemmas.Map.Text.{is_eq-slice_cmp}
use Rattle.std.proofs.lemmas.Slice.Eq.{bytes_eq-Decides}
use Rattle.serde_json.specs.Data.{Data, Members, put}
use Rattle.gr_word.specs.declared.variables.Want.{Want}
use Rattle.run_data.specs.declared.errors.InputError.{InputError}
use Rattle.run_data.specs.declared.errors.InputError.TheVariants.{UnknownName}
use Rattle.run_data.specs.declared.members.Given.{Given}
use Rattle.run_data.specs.Prelude.{or_else, GivenValue, given_of, given_view, given_members, least_given, entries_view, given_value_fault, given_named_fault, first_given_fault}
use Rattle.run_data.proofs.Fits.{or_else-none}
use Rattle.run_data.proofs.Given.{put_given, put_kept, insert_kept}

abbrev Entries : Type 0
Entries = List (List ℕ × GivenValue)

-- ---- what is dropped doesn't come back

take_again : (n : ℕ) (m : List ℕ × GivenValue) (xs : Entries) → take n (m ∷ take n xs) ≡ take n (m ∷ xs)
take_again zero m xs = refl
take_again (suc n) m xs = ap (λ ys. m ∷ ys) (take-take n (suc n) xs (omega arith))

placed_least : (n : ℕ) (name : List ℕ) (value : GivenValue) (m : List ℕ × GivenValue) (xs : Entries) (o : Ordering)
    → take n (put_given name value (take n xs)) ≡ take n (put_given name value xs)
    → take (suc n) (match_ordering o ((name, value) ∷ m ∷ take n xs) ((m.0, value) ∷ take n xs)
    (m ∷ put_given name value (take n xs)))
    ≡ take (suc n) (match_ordering o ((name, value) ∷ m ∷ xs) ((m.0, value) ∷ xs) (m ∷ put_given name value xs))
placed_least n name value m xs Less later = ap (λ ys. (name, value) ∷ ys) (take_again n m xs)
placed_least n name value m xs Equal later = ap (λ ys. (m.0, value) ∷ ys) (take-take n n xs (omega arith))
placed_least n name value m xs Greater later = ap (λ ys. m ∷ ys) later

put_least : (n : ℕ) (name : List ℕ) (value : GivenValue) (xs : Entries)
    → take n (put_given name value (take n xs)) ≡ take n (put_given name value xs)
put_least zero name value xs = refl
put_least (suc n) name value [] = refl
put_least (suc n) name value (m ∷ xs) =
    placed_least n name value m xs (slice_cmp nat_cmp name m.0) (put_least n name value xs)

-- one more member
pub put_least_seen : (most : ℕ) (members : Members) (entries : List (String Global × Given)) (key : String Global)
    (value : Data) (given : Given)
    → least_given most members ≡ entries_view entries → given_of value ≡ given_view given
    → least_given most (put (string_bytes key) value members)
    ≡ entries_view (take most (insert_entry string_cmp entries key given))
put_least_seen most members entries key value given same is =
    let name = string_bytes key in
    ap (take most) (put_kept name value members)
    ∙ sym (put_least most name (given_of value) (given_members members))
    ∙ ap (take most) (ap₂ (put_given name) is same ∙ sym (insert_kept entries key given))
    ∙ take-map (λ e. (string_bytes e.0, given_view e.1)) most (insert_entry string_cmp entries key given)

length-entries : (entries : List (String Global × Given)) → length (entries_view entries) ≡ length entries
length-entries entries = rw length-map refl

pub least_few : (most : ℕ) (members : Members) (entries : List (String Global × Given))
    → least_given most members ≡ entries_view entries → length entries ≤ most
least_few most members entries is =
    let long = length-take most (given_members members) in
    let same = ap length is ∙ length-entries entries in
    omega (arith, long, same)

-- ---- members without a fault are no more than the variables

abbrev same : List ℕ → List ℕ → Bool
same = eq_by_cmp (slice_cmp nat_cmp)

abbrev names_of : Entries → List (List ℕ)
names_of members = map (λ m. m.0) members

apart : (key : String Global) (entries : List (String Global × Given))
    → AllByRecursion (λ other. eq_by_cmp string_cmp key other ≡ false) (keys_of entries)
    → AllByRecursion (λ other. same (string_bytes key) other ≡ false) (names_of (entries_view entries))
apart key [] others = tt
apart key (e ∷ entries) others = (others.0, apart key entries others.1)

distinct_names : (entries : List (String Global × Given)) → IsDistinct (eq_by_cmp string_cmp) (keys_of entries)
    → IsDistinct same (names_of (entries_view entries))
unfolding IsDistinct
distinct_names [] distinct = distinct
distinct_names (e ∷ entries) distinct =
    IsDistinct-cons same (string_bytes e.0) (names_of (entries_view entries))
    (apart e.0 entries (IsDistinct-head (eq_by_cmp string_cmp) e.0 (keys_of entries) distinct))
    (distinct_names entries (IsDistinct-tail (eq_by_cmp string_cmp) e.0 (keys_of entries) distinct))

same_is : (one other : List ℕ) → one ≡ other → same one other ≡ true
same_is one other is = is_eq-slice_cmp one other ∙ (bytes_eq-Decides one other).1 is

true_or : (a b : Bool) → a ≡ true → (a || b) ≡ true
true_or true b is = refl
true_or false b is = absurd (let f : ◌≡◌ {A = Bool} false true = is in cc)

or_true : (a b : Bool) → b ≡ true → (a || b) ≡ true
or_true true b is = refl
or_true false b is = is

named_by : (want : Want) (wants : List Want) (name : List ℕ) (value : GivenValue) (b : Bool)
    → bytes_eq want.name name ≡ b
    → cond b (given_value_fault want value) (given_named_fault wants name value) ≡ None
    → (given_named_fault wants name value ≡ None → list_any (same name) (map (λ want. want.name) wants) ≡ true)
    → list_any (same name) (map (λ want. want.name) (want ∷ wants)) ≡ true
named_by want wants name value true is none later =
    true_or _ _ (same_is name want.name (sym ((bytes_eq-Decides want.name name).0 is)))
named_by want wants name value false is none later = or_true (same name want.name) _ (later none)

-- a member without a fault names a variable
named : (wants : List Want) (name : List ℕ) (value : GivenValue) → given_named_fault wants name value ≡ None
    → list_any (same name) (map (λ want. want.name) wants) ≡ true
named [] name value none = absurd (let f : ◌≡◌ {A = Option InputError} (Some (UnknownName name)) None = none in cc)
named (want ∷ wants) name value none =
    named_by want wants name value (bytes_eq want.name name) refl none (named wants name value)

all_named : (wants : List Want) (members : Entries) → first_given_fault wants members ≡ None
    → (q : List ℕ) → list_any (same q) (names_of members) ≡ true
    → list_any (same q) (map (λ want. want.name) wants) ≡ true
all_named wants [] none q here = absurd (let f : ◌≡◌ {A = Bool} false true = here in cc)
all_named wants (m ∷ members) none q here =
    let nones = or_else-none (given_named_fault wants m.0 m.1) (first_given_fault wants members) none in
    named_at (same q m.0) refl nones.0 (all_named wants members nones.1 q) here
  where
    named_at : (b : Bool) → same q m.0 ≡ b → given_named_fault wants m.0 m.1 ≡ None
        → (list_any (same q) (names_of members) ≡ true → list_any (same q) (map (λ want. want.name) wants) ≡ true)
        → (b || list_any (same q) (names_of members)) ≡ true
        → list_any (same q) (map (λ want. want.name) wants) ≡ true
    named_at true is first later found =
        list_any_congr (eq_by_cmp_equiv nat_list_cmp_total) q m.0 (map (λ want. want.name) wants) is
        ∙ named wants m.0 m.1 first
    named_at false is first later found = later found

pub few_members : (wants : List Want) (entries : List (String Global × Given))
    → IsStrictlySortedBy string_cmp (keys_of entries) → first_given_fault wants (entries_view entries) ≡ None
    → length entries ≤ length wants
few_members wants entries sorted none =
    let members = entries_view entries in
    let few = length-le_from_is_member (eq_by_cmp_equiv nat_list_cmp_total) (names_of members)
    (map (λ want. want.name) wants)
    (distinct_names entries (IsDistinct-from_sorted string_cmp (keys_of entries) sorted))
    (all_named wants members none) in
    let names = length-map members (λ m. m.0) in
    let seen = length-entries entries in
    let wanted = length-map wants (λ want. want.name) in
    omega (arith, few, names, seen, wanted)

-- ---- the first fault

first_of : (wants : List Want) (n : ℕ) (members : Entries) (fault : InputError)
    → first_given_fault wants (take n members) ≡ Some fault → first_given_fault wants members ≡ Some fault
first_of wants zero members fault is =
    absurd (let f : ◌≡◌ {A = Option InputError} None (Some fault) = is in cc)
first_of wants (suc n) [] fault is = is
first_of wants (suc n) (m ∷ members) fault is =
    first_by (given_named_fault wants m.0 m.1) (first_of wants n members fault) is
  where
    first_by : (first : Option InputError)
        → (first_given_fault wants (take n members) ≡ Some fault → first_given_fault wants members ≡ Some fault)
        → or_else first (first_given_fault wants (take n members)) ≡ Some fault
        → or_else first (first_given_fault wants members) ≡ Some fault
    first_by None later found = later found
    first_by (Some fault) later found = found

-- the first fault of the least members is that of all
pub least_fault : (wants : List Want) (most : ℕ) (members : Members) (entries : Entries) (fault : InputError)
    → least_given most members ≡ entries → first_given_fault wants entries ≡ Some fault
    → first_given_fault wants (given_members members) ≡ Some fault
least_fault wants most members entries fault is faulty =
    first_of wants most (given_members members) fault (ap (first_given_fault wants) is ∙ faulty)

-- all members were kept, if fewer than the most are
pub all_kept : (most : ℕ) (members : Members) (entries : List (String Global × Given))
    → least_given most members ≡ entries_view entries → length entries + 1 ≤ most
    → given_members members ≡ entries_view entries
all_kept most members entries is few =
    let long = length-take most (given_members members) in
    let seen = ap length is ∙ length-entries entries in
    sym (take_all most (given_members members) (omega (arith, long, seen, few))) ∙ is
