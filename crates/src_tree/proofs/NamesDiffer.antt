-- Names that are declared once differ.
use Rattle.std.proofs.Common.{◌≡◌, ◌≢◌, ℕ, zero, suc, ◌<◌, Bool, true, false, cond, List, [], ◌∷◌, length, take, get_or, Option, Some, None, refl, sym, ◌∙◌, subst, arith}
use Rattle.std.specs.Prelude.{bytes_eq}
use Rattle.std.proofs.lemmas.List.{get_or-take, length-take-le}
use Rattle.std.proofs.lemmas.Slice.Eq.{bytes_eq-Decides}
use Rattle.gr_base.proofs.EachAfter.{EachAfter-at}
use Rattle.src_tree.specs.declared.trees.Decl.{Decl}
use Rattle.src_tree.specs.Prelude.{label_and_shape, context_of, DeclaredOnce}

-- a name that isn't declared differs from each name that is
not-among : (ds : List Decl) (name : List ℕ)
    → context_of ds name ≡ None → (i : ℕ) (d : Decl) → i < length ds → (get_or ds i d).name ≢ name
not-among [] name none i d within is = absurd (omega (arith, within))
not-among (x ∷ ds) name none i d within is = go (not-among ds name) (bytes_eq name x.name) refl i within is
  where
    go : (context_of ds name ≡ None → (i : ℕ) (d : Decl) → i < length ds → (get_or ds i d).name ≢ name)
        → (b : Bool) → bytes_eq name x.name ≡ b → (i : ℕ) → i < length (x ∷ ds) → (get_or (x ∷ ds) i d).name ≡ name → ⊥
    go later true same i within is =
        absurd (let f : ◌≡◌ {A = Option _} (Some (label_and_shape x)) None =
        subst (λ b. cond b (Some (label_and_shape x)) (context_of ds name) ≡ None) same none in cc)
    go later false other zero within is =
        absurd (let f : true ≡ false = sym ((bytes_eq-Decides name x.name).1 (sym is)) ∙ other in cc)
    go later false other (suc i) within is =
        later (subst (λ b. cond b (Some (label_and_shape x)) (context_of ds name) ≡ None) other none) i d
        (omega (arith, within)) is

-- the names of two declarations differ
pub names_differ : (ds : List Decl)
    → DeclaredOnce ds → (i j : ℕ) (d : Decl) → i < j → j < length ds → (get_or ds i d).name ≢ (get_or ds j d).name
names_differ ds once i j d less within =
    subst (λ (x : Decl). x.name ≢ (get_or ds j d).name) (get_or-take j ds i d less)
    (not-among (take j ds) (get_or ds j d).name
    (EachAfter-at (λ before x. context_of before x.name ≡ None) [] ds once j d within) i d
    (subst (λ n. i < n) (sym (length-take-le j ds (omega (arith, within)))) less))
