-- What is planned for variable number k, by the variables before it.
use Rattle.std.proofs.Common.{◌≡◌, ℕ, zero, suc, ◌+◌, ◌^◌, ◌<◌, ◌≤◌, Bool, true, false, cond, List, [], ◌∷◌, ◌++◌, length, map, take, drop, get_or, Option, Some, None, refl, sym, ap, ◌∙◌, subst, arith, append_assoc}
use Rattle.std.specs.Prelude.{count_by, ◌&&◌, is_none}
use Rattle.std.proofs.lemmas.Nat.{pow_pos}
use Rattle.std.proofs.lemmas.List.{append-nil, get_or-map, get_or-take, length-map, length-take-le, take-append-drop, take_more, take-take}
use Rattle.std.proofs.lemmas.List.Sums.{sum_by-cons}
use Rattle.gr_word.specs.declared.variables.Label.{Label}
use Rattle.gr_word.specs.declared.variables.Label.TheVariants.{Public, Secret}
use Rattle.src_tree.specs.declared.trees.Decl.{Decl}
use Rattle.src_tree.specs.Prelude.{words_of, words_of_length, LengthFits, IsWithinLimits, Source}
use Rattle.bank_alloc.specs.declared.classes.Class.{Class}
use Rattle.bank_alloc.specs.declared.classes.Class.TheVariants.{PublicScalar, SecretScalar}
use Rattle.bank_alloc.specs.Prelude.{class_by, class_of, is_labelled, is_scalar, ScalarsFit, has_secret_index, is_same}
use Rattle.bank_alloc.proofs.Apart.{length_at}
use Rattle.resident_alloc.specs.declared.wants.Want.{Want}
use Rattle.resident_alloc.specs.Prelude.{is_of, wants_of, storage_of, Planned, planned, planned_behind, planned_for}
use Rattle.resident_alloc.proofs.Zones.{ScalarsFitBlock}
use Rattle.resident_alloc.proofs.Stored.{want, is_scalar_class, LiesIn, stored, lies}
use Rattle.resident_alloc.proofs.Served.{IsPlaced, IsServed, placed, served}

-- as many as there are variables
pub length-planned_behind : (size : ℕ) (all before vs : List Want)
    → length (planned_behind size all before vs) ≡ length vs
unfolding planned_behind
length-planned_behind size all before [] = refl
length-planned_behind size all before (v ∷ vs) = ap suc (length-planned_behind size all (before ++ v ∷ []) vs)

pub get_or-planned_behind : (size : ℕ) (all before vs : List Want) (k : ℕ) (d : Planned) (e : Want) → k < length vs
    → get_or (planned_behind size all before vs) k d ≡ planned size all (before ++ take k vs) (get_or vs k e)
unfolding planned_behind
get_or-planned_behind size all before [] k d e within = absurd (omega arith)
get_or-planned_behind size all before (v ∷ vs) zero d e within =
    ap (λ b. planned size all b v) (sym (append-nil before))
get_or-planned_behind size all before (v ∷ vs) (suc k) d e within =
    get_or-planned_behind size all (before ++ v ∷ []) vs k d e (omega arith)
    ∙ ap (λ b. planned size all b (get_or vs k e)) (append_assoc before (v ∷ []) (take k vs))

-- the variables before number k, number k, and those after it
pub split_at : (xs : List Want) (k : ℕ) (d : Want) → k < length xs
    → xs ≡ (take k xs ++ get_or xs k d ∷ []) ++ drop (k + 1) xs
split_at xs k d within =
    sym (take-append-drop (k + 1) xs) ∙ ap (λ l. l ++ drop (k + 1) xs) (take_more xs k d within)

-- the variables before number j begin with those to number i
pub split_before : (xs : List Want) (i j : ℕ) (d : Want) → i < j → j ≤ length xs
    → take j xs ≡ (take i xs ++ get_or xs i d ∷ []) ++ drop (i + 1) (take j xs)
split_before xs i j d less within =
    split_at (take j xs) i d (omega (arith, length-take-le j xs within))
    ∙ ap (λ l. (l ++ get_or (take j xs) i d ∷ []) ++ drop (i + 1) (take j xs)) (take-take i j xs (omega arith))
    ∙ ap (λ x. (take i xs ++ x ∷ []) ++ drop (i + 1) (take j xs)) (get_or-take j xs i d less)

-- all that is known of a variable of a class and n words, from what is planned for it
pub record IsVariable (size : ℕ) (all before : List Want) (c : Class) (n : ℕ) (x : Planned) : Type 0 where
  pub placed : IsPlaced size all c n x.place
  pub lies : LiesIn size all before (want c n) x.place
  pub served : IsServed size all before c n x.storage x.place x.slot

planned_is : (size : ℕ) (all before : List Want) (c : Class) (n : ℕ) (rest : List Want) → 0 < size → 1 ≤ n
    → (is_scalar_class c ≡ true → n ≡ 1) → ScalarsFitBlock size all → all ≡ (before ++ want c n ∷ []) ++ rest
    → IsVariable size all before c n (planned size all before (want c n))
planned_is size all before c n rest some word one fit whole =
    let s = storage_of size all before (want c n) in
    let how = stored size all before c n in
    record {
      placed = placed size all before n rest c s some word fit whole how;
      lies = lies size all before n c s some one how;
      served = served size all before n rest c s one fit whole how;
    }

-- a variable has a word at least, and a scalar one
one_word : (label : Label) (l : Option ℕ) (indexed : Bool) → is_scalar_class (class_by label l indexed) ≡ true
    → words_of_length l ≡ 1
one_word label None indexed is = refl
one_word Public (Some n) indexed is = absurd (let e : false ≡ true = is in cc)
one_word Secret (Some n) true is = absurd (let e : false ≡ true = is in cc)
one_word Secret (Some n) false is = absurd (let e : false ≡ true = is in cc)

pub some_word : (l : Option ℕ) → LengthFits l → 1 ≤ words_of_length l
some_word None fits = omega arith
some_word (Some n) fits = fits.0

-- scalars are counted alike
abbrev scalar_class : Label → Class
scalar_class Public = PublicScalar
scalar_class Secret = SecretScalar

same_test : (label l : Label) (n : Option ℕ) (indexed : Bool)
    → is_same (scalar_class label) (class_by l n indexed) ≡ (is_none n && is_labelled label l)
same_test Public Public None indexed = refl
same_test Public Secret None indexed = refl
same_test Public Public (Some n) indexed = refl
same_test Public Secret (Some n) true = refl
same_test Public Secret (Some n) false = refl
same_test Secret Public None indexed = refl
same_test Secret Secret None indexed = refl
same_test Secret Public (Some n) indexed = refl
same_test Secret Secret (Some n) true = refl
same_test Secret Secret (Some n) false = refl

abbrev want_of : Source → Decl → Want
want_of p d = want (class_of p d) (words_of d)

abbrev one_if : Bool → ℕ
one_if b = cond b 1 0

counted : (p : Source) (label : Label) (ds : List Decl)
    → count_by (is_of (scalar_class label)) (map (want_of p) ds) ≡ count_by (is_scalar label) ds
counted p label [] = refl
counted p label (d ∷ ds) =
    let rest = counted p label ds in
    let here = ap one_if (same_test label d.label d.length (has_secret_index p d.name)) in
    let wants =
    sum_by-cons (λ v. cond (is_of (scalar_class label) v) 1 0) (want_of p d) (map (want_of p) ds) in
    let decls = sum_by-cons (λ x. cond (is_scalar label x) 1 0) d ds in
    omega (arith, rest, here, wants, decls)

pub scalars_fit : (p : Source) (w : ℕ) → ScalarsFit p w → ScalarsFitBlock (2 ^ w) (wants_of p)
scalars_fit p w fit = record {
  public = omega (arith, counted p Public p.decls, fit.public);
  secret = omega (arith, counted p Secret p.decls, fit.secret);
}

pub no_want : Want
no_want = want PublicScalar 0

pub want_at : (p : Source) (k : ℕ) (e : Decl) → k < length p.decls
    → get_or (wants_of p) k no_want ≡ want (class_of p (get_or p.decls k e)) (words_of (get_or p.decls k e))
want_at p k e within = get_or-map (want_of p) p.decls k e no_want within

pub length-wants : (p : Source) → length (wants_of p) ≡ length p.decls
length-wants p = length-map p.decls (want_of p)

-- the variables before number k, number k, and those after it
pub wants_split : (p : Source) (k : ℕ) (e : Decl) → k < length p.decls
    → wants_of p ≡ (take k (wants_of p)
    ++ want (class_of p (get_or p.decls k e)) (words_of (get_or p.decls k e)) ∷ []) ++ drop (k + 1) (wants_of p)
wants_split p k e within =
    split_at (wants_of p) k no_want (omega (arith, within, length-wants p))
    ∙ ap (λ x. (take k (wants_of p) ++ x ∷ []) ++ drop (k + 1) (wants_of p)) (want_at p k e within)

pub wants_before : (p : Source) (i j : ℕ) (e : Decl) → i < j → j < length p.decls
    → take j (wants_of p) ≡ (take i (wants_of p)
    ++ want (class_of p (get_or p.decls i e)) (words_of (get_or p.decls i e)) ∷ [])
    ++ drop (i + 1) (take j (wants_of p))
wants_before p i j e less within =
    split_before (wants_of p) i j no_want less (omega (arith, within, length-wants p))
    ∙ ap (λ x. (take i (wants_of p) ++ x ∷ []) ++ drop (i + 1) (take j (wants_of p)))
    (want_at p i e (omega (arith, less, within)))

pub words_some : (p : Source) (k : ℕ) (e : Decl) → IsWithinLimits p → k < length p.decls
    → 1 ≤ words_of (get_or p.decls k e)
words_some p k e limits within = some_word (get_or p.decls k e).length (length_at p.decls limits.lengths k e within)

pub variable_at : (p : Source) (w k : ℕ) (e : Decl) (d : Planned)
    → IsWithinLimits p → ScalarsFit p w → k < length p.decls
    → IsVariable (2 ^ w) (wants_of p) (take k (wants_of p)) (class_of p (get_or p.decls k e))
    (words_of (get_or p.decls k e)) (get_or (planned_for p w) k d)
variable_at p w k e d limits fit within =
    let size = 2 ^ w in
    let all = wants_of p in
    let v = get_or p.decls k e in
    let here : k < length all = omega (arith, within, length-wants p) in
    let is =
    get_or-planned_behind size all [] all k d no_want here
    ∙ ap (planned size all (take k all)) (want_at p k e within) in
    subst (IsVariable size all (take k all) (class_of p v) (words_of v)) (sym is)
    (planned_is size all (take k all) (class_of p v) (words_of v) (drop (k + 1) all) (pow_pos w)
    (words_some p k e limits within) (one_word v.label v.length (has_secret_index p v.name)) (scalars_fit p w fit)
    (wants_split p k e within))
