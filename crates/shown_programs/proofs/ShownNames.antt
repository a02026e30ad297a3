-- Names for people, one variable after another.
use Rattle.std.proofs.Common.{◌≡◌, ◌≢◌, ℕ, suc, ◌+◌, ◌<◌, ◌≤◌, ◌⊎◌, Bool, true, false, List, [], ◌∷◌, ◌++◌, length, get_or, All, AllPairs, refl, sym, ◌∙◌, subst, ⊎_elim, arith}
use Rattle.std.proofs.lemmas.Bool.{cases_lt}
use Rattle.std.proofs.lemmas.List.Quantifiers.{all_pairs_push}
use Rattle.std.proofs.lemmas.List.{get_or_push, length_push, get_or_append_left, get_or_default}
use Rattle.src_tree.specs.declared.trees.Decl.{Decl}
use Rattle.src_tree.specs.Prelude.{DeclaredOnce}
use Rattle.src_tree.proofs.NamesDiffer.{names_differ}
use Rattle.procs_tree.specs.Prelude.{is_hidden}
use Rattle.shown_programs.specs.Prelude.{IsNew}

-- The names of the first k variables. A variable that a call adds has a name that isn't declared.
pub record ShownBelow (decls : List Decl) (k : ℕ) (names : List (List ℕ)) : Type 0 where
  pub count : length names ≡ k
  pub own : (i : ℕ) (d : Decl) → i < k → is_hidden (get_or decls i d).name ≡ false
      → get_or names i [] ≡ (get_or decls i d).name
  pub added : (i : ℕ) (d : Decl) → i < k → is_hidden (get_or decls i d).name ≡ true
      → All (λ (decl : Decl). decl.name ≢ get_or names i []) decls
  pub distinct : AllPairs (λ first second. first ≢ second) names

-- what holds of the names before is kept by one more name
kept : (k : ℕ) (names : List (List ℕ)) (name : List ℕ) → length names ≡ k
    → (P : ℕ → List ℕ → Type 0) → ((i : ℕ) → i < k → P i (get_or names i [])) → P k name
    → (i : ℕ) → i < suc k → P i (get_or (names ++ name ∷ []) i [])
kept k names name count P before last i below =
    ⊎_elim
    (λ (less : i < k). subst (P i) (sym (get_or_append_left names (name ∷ []) [] i (omega (arith, less, count))))
    (before i less))
    (λ (most : k ≤ i). let is : i ≡ k = omega (arith, most, below) in
    subst (λ j. P j (get_or (names ++ name ∷ []) j [])) (sym is)
    (subst (P k) (sym (get_or_push names name [] k count)) last))
    (cases_lt i k)

-- one more name, which no name before it has
shown_next : (decls : List Decl) (k : ℕ) (names : List (List ℕ)) (name : List ℕ) → ShownBelow decls k names
    → ((d : Decl) → is_hidden (get_or decls k d).name ≡ false → name ≡ (get_or decls k d).name)
    → ((d : Decl) → is_hidden (get_or decls k d).name ≡ true → All (λ (decl : Decl). decl.name ≢ name) decls)
    → ((i : ℕ) → i < k → get_or names i [] ≢ name) → ShownBelow decls (suc k) (names ++ name ∷ [])
shown_next decls k names name shown own added new = record {
  count = length_push names name ∙ omega (arith, shown.count);
  own = λ i d below. kept k names name shown.count
      (λ j x. is_hidden (get_or decls j d).name ≡ false → x ≡ (get_or decls j d).name)
      (λ j less. shown.own j d less) (own d) i below;
  added = λ i d below. kept k names name shown.count
      (λ j x. is_hidden (get_or decls j d).name ≡ true → All (λ (decl : Decl). decl.name ≢ x) decls)
      (λ j less. shown.added j d less) (added d) i below;
  distinct = all_pairs_push (λ first second. first ≢ second) names name shown.distinct
      (λ i d below. subst (λ x. x ≢ name) (get_or_default names i [] d below) (new i (omega (arith, below, shown.count))));
}

-- the declared name of the next variable
pub own_shown : (decls : List Decl) (k : ℕ) (names : List (List ℕ)) (d : Decl) → DeclaredOnce decls
    → ShownBelow decls k names → k < length decls → is_hidden (get_or decls k d).name ≡ false
    → ShownBelow decls (suc k) (names ++ (get_or decls k d).name ∷ [])
own_shown decls k names d once shown within is =
    let name = (get_or decls k d).name in
    let same : (e : Decl) → get_or decls k e ≡ get_or decls k d = λ e. get_or_default decls k e d within in
    let new : (i : ℕ) → i < k → (b : Bool) → is_hidden (get_or decls i d).name ≡ b → get_or names i [] ≢ name =
    λ i less b. by i less b in
    shown_next decls k names name shown
    (λ e _. subst (λ (x : Decl). name ≡ x.name) (sym (same e)) refl)
    (λ e hidden. absurd (let f : true ≡ false = sym hidden ∙ (subst (λ (x : Decl). is_hidden x.name ≡ false)
    (sym (same e)) is) in cc))
    (λ i less. new i less (is_hidden (get_or decls i d).name) refl)
  where
    by : (i : ℕ) → i < k → (b : Bool) → is_hidden (get_or decls i d).name ≡ b
        → get_or names i [] ≢ (get_or decls k d).name
    by i less false own = λ e. names_differ decls once i k d less within (sym (shown.own i d less own) ∙ e)
    by i less true added = λ e. shown.added i d less added k d within (sym e)

-- a new name for the next variable, which a call adds
pub new_shown : (decls : List Decl) (k : ℕ) (names : List (List ℕ)) (d : Decl) (name : List ℕ)
    → ShownBelow decls k names → k < length decls → is_hidden (get_or decls k d).name ≡ true → IsNew decls names name
    → ShownBelow decls (suc k) (names ++ name ∷ [])
new_shown decls k names d name shown within is new =
    shown_next decls k names name shown
    (λ e own. absurd (let f : true ≡ false = sym (subst (λ (x : Decl). is_hidden x.name ≡ true)
    (get_or_default decls k d e within) is) ∙ own in cc))
    (λ e _. new.0)
    (λ i less. new.1 i [] (omega (arith, less, shown.count)))
