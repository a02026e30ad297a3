-- The branches that are listed as those that may join: how the list begins, one more, and the lowest taken from it.
use Rattle.std.proofs.Common.{◌≡◌, ℕ, zero, suc, ◌<◌, ◌≤◌, List, [], ◌∷◌, ◌++◌, length, get_or, set, map, ◌⊎◌, inl, inr, Option, Some, None, refl, sym, ◌∙◌, subst, ⊎_elim, arith, get_or-set_other}
use Rattle.std.specs.List.{Contains, All}
use Rattle.std.specs.List.Sorted.{IsPermutation}
use Rattle.std.specs.Ordering.{nat_cmp}
use Rattle.std.specs.BinaryHeap.{IsUpperBound}
use Rattle.std.proofs.lemmas.List.Sorted.{Contains-permutation, length_permutation, le_from_greatest}
use Rattle.std.proofs.lemmas.List.Elements.{All-contains, All-nil, All-cons, All-head}
use Rattle.std.proofs.lemmas.Bool.{cases_eq}
use Rattle.std.proofs.lemmas.Option.{slice_get_within}
use Rattle.lt_isa.specs.declared.instructions.Instr.TheVariants.{Br}
use Rattle.lt_isa.specs.Prelude.{Parts}
use Rattle.trace_patterns.specs.Prelude.{Known, start_known}
use Rattle.note_infer.specs.Prelude.{MayJoin, at_places, Waits, Looks, MayJoinTo, IsLowestToJoin, ListsJoiners, ListsOthers}
use Rattle.note_infer.proofs.Brought.{waits-last}
use Rattle.note_infer.proofs.SameParts.{joins_by}

-- one place more in a list, and one taken
contains_first : (x : ℕ) (xs : List ℕ) → Contains (x ∷ xs) x
contains_first x xs = (0, omega arith, refl)

contains_behind : (x q : ℕ) (xs : List ℕ) → Contains xs q → Contains (x ∷ xs) q
contains_behind x q xs h = (suc h.0, omega (arith, h.1), h.2)

contains_cases : (x q : ℕ) (xs : List ℕ) → Contains (x ∷ xs) q → (q ≡ x) ⊎ Contains xs q
contains_cases x q xs (zero, lt, e) = inl (sym e)
contains_cases x q xs (suc k, lt, e) = inr (k, omega (arith, lt), e)

none_contained : (q : ℕ) → Contains [] q → ⊥
none_contained q h = absurd (omega (arith, h.1))

pub listed_keeps : (old new : List ℕ) (place q : ℕ) → IsPermutation (place ∷ old) new → Contains old q → Contains new q
listed_keeps old new place q moved h =
    Contains-permutation (place ∷ old) new q moved (contains_behind place q old h)

pub listed_here : (old new : List ℕ) (place : ℕ) → IsPermutation (place ∷ old) new → Contains new place
listed_here old new place moved = Contains-permutation (place ∷ old) new place moved (contains_first place old)

taken_cases : (old new : List ℕ) (place q : ℕ) → IsPermutation old (place ∷ new) → Contains old q
    → (q ≡ place) ⊎ Contains new q
taken_cases old new place q moved h =
    contains_cases place q new (Contains-permutation old (place ∷ new) q moved h)

pub taken_shorter : (old new : List ℕ) (place : ℕ) → IsPermutation old (place ∷ new) → length new < length old
taken_shorter old new place moved = omega (arith, length_permutation old (place ∷ new) moved)

-- what may join, only by what is known at its place
may_join_as : (o : Parts) (crossed : List ℕ) (before after : List (Option Known)) (q : ℕ)
    → at_places after q ≡ at_places before q → MayJoin o crossed (at_places after) q
    → MayJoin o crossed (at_places before) q
may_join_as o crossed before after q e h =
    joins_by o crossed (at_places after) (at_places before) q h (sym e ∙ h.reached)

-- one place is looked at, whose branch was listed before if it may join
pub listed_turn : (o : Parts) (crossed : List ℕ) (states : List (Option Known)) (stack : List ℕ) (place : ℕ)
    (after : List (Option Known)) (rest joiners more : List ℕ)
    → ListsJoiners o crossed states (stack ++ place ∷ []) joiners
    → ((q : ℕ) → Contains joiners q → Contains more q)
    → (MayJoin o crossed (at_places states) place → Contains more place)
    → Looks o crossed place states stack after rest → ListsJoiners o crossed after rest more
listed_turn o crossed states stack place after rest joiners more listed keeps here looks =
    record { each = λ q h. by q h (looks.same q) }
  where
    waits : (q : ℕ) → MayJoin o crossed (at_places states) q → Waits stack q ⊎ (q ≡ place)
        → Contains more q ⊎ Waits rest q
    waits q was (inl w) = inr (looks.waits q w)
    waits q was (inr e) =
        inl (subst (Contains more) (sym e) (here (subst (MayJoin o crossed (at_places states)) e was)))

    found : (q : ℕ) → MayJoin o crossed (at_places states) q → Contains joiners q ⊎ Waits (stack ++ place ∷ []) q
        → Contains more q ⊎ Waits rest q
    found q was (inl c) = inl (keeps q c)
    found q was (inr w) = waits q was (waits-last stack place q w)

    by : (q : ℕ) → MayJoin o crossed (at_places after) q → (at_places after q ≡ at_places states q) ⊎ Waits rest q
        → Contains more q ⊎ Waits rest q
    by q h (inr w) = inr w
    by q h (inl e) = let was = may_join_as o crossed states after q e h in found q was (listed.each q was)

-- at first only the start is known, and it waits
pub listed_begun : (o : Parts) (crossed : List ℕ) (empty : List (Option Known)) (joiners : List ℕ)
    → ((p : ℕ) → get_or empty p None ≡ None)
    → ListsJoiners o crossed (set empty 0 (Some start_known)) (0 ∷ []) joiners
listed_begun o crossed empty joiners nothing = record { each = λ q h. by q h (cases_eq q 0) }
  where
    by : (q : ℕ) → MayJoin o crossed (at_places (set empty 0 (Some start_known))) q → (q ≡ 0) ⊎ (q ≡ 0 → ⊥)
        → Contains joiners q ⊎ Waits (0 ∷ []) q
    by q h (inl e) = inr (inl (sym e))
    by q h (inr ne) =
        absurd (let f : ◌≡◌ {A = Option Known} None (Some h.known) =
        sym (get_or-set_other empty 0 q (Some start_known) None ne ∙ nothing q) ∙ h.reached in cc)

-- the lowest is taken
module _ (o : Parts) (crossed : List ℕ) (states : List (Option Known)) (old new : List ℕ) (place : ℕ)
    (listed : ListsJoiners o crossed states [] old) (moved : IsPermutation old (place ∷ new)) where
  contained : (q : ℕ) → MayJoin o crossed (at_places states) q → Contains old q
  contained q h = ⊎_elim (λ (c : Contains old q). c) (λ (w : ⊥). absurd w) (listed.each q h)

  pub listed_fewer : ¬ MayJoin o crossed (at_places states) place → ListsJoiners o crossed states [] new
  listed_fewer not = record {
    each = λ q h. ⊎_elim
        (λ (e : q ≡ place). absurd (not (subst (MayJoin o crossed (at_places states)) e h)))
        (λ (c : Contains new q). inl c)
        (taken_cases old new place q moved (contained q h));
  }

  pub lowest_found : (join : ℕ) → All (λ other. place ≤ other) old → MayJoinTo o crossed states place join
      → IsLowestToJoin o crossed states place join
  lowest_found join all to = record {
    inside = slice_get_within o.code place (Br to.may.cmp to.may.ra to.may.rb to.may.offset) to.may.branch;
    to = to;
    lowest = λ q lt h. let le : place ≤ q = All-contains (λ other. place ≤ other) old q all (contained q h) in
        absurd (omega (arith, lt, le));
  }

  pub others_listed : ListsOthers o crossed states new place
  others_listed = record {
    each = λ q h. ⊎_elim
        (λ (f : q ≡ place). inr f)
        (λ (c : Contains new q). inl c)
        (taken_cases old new place q moved (contained q h));
  }

pub none_listed : (o : Parts) (crossed : List ℕ) (states : List (Option Known)) (joiners : List ℕ)
    → ListsJoiners o crossed states [] joiners → joiners ≡ [] → (p : ℕ) → ¬ MayJoin o crossed (at_places states) p
none_listed o crossed states joiners listed e p h =
    ⊎_elim (λ (c : Contains joiners p). none_contained p (subst (λ (l : List ℕ). Contains l p) e c))
    (λ (w : ⊥). absurd w) (listed.each p h)

-- where nothing waits all are listed
pub listed_ended : (o : Parts) (crossed : List ℕ) (states : List (Option Known)) (stack joiners : List ℕ) → stack ≡ []
    → ListsJoiners o crossed states stack joiners → ListsJoiners o crossed states [] joiners
listed_ended o crossed states stack joiners e h = subst (λ (l : List ℕ). ListsJoiners o crossed states l joiners) e h

-- the greatest by an order that is turned round is the lowest
pub lowest_by : {R : Type 0} (f : R → ℕ) (x : R) (xs : List R) → IsUpperBound (λ a b. nat_cmp (f b) (f a)) x xs
    → All (λ other. f x ≤ other) (map f xs)
lowest_by f x [] h = All-nil (λ other. f x ≤ other)
lowest_by f x (y ∷ ys) h =
    All-cons (λ other. f x ≤ other) (f y) (map f ys)
    (All-head (λ z. z ≤ f y) (f x) [] (le_from_greatest (f y) (f x ∷ []) (h.0, tt))) (lowest_by f x ys h.1)
