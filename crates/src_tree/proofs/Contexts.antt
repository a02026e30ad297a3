-- What names are declared as, after one more declaration.
use Rattle.std.proofs.Common.{◌≡◌, ℕ, Bool, true, false, cond, List, [], ◌∷◌, ◌++◌, Option, Some, None, refl, sym, ap, ◌∙◌, subst}
use Rattle.std.specs.Prelude.{bytes_eq}
use Rattle.std.specs.Bool.{Decides, one_answer}
use Rattle.std.specs.Option.{option_or}
use Rattle.std.proofs.lemmas.Slice.Eq.{bytes_eq-Decides}
use Rattle.src_tree.specs.declared.trees.Decl.{Decl}
use Rattle.src_tree.specs.Prelude.{label_and_shape, context_of}
use Rattle.src_tree.proofs.Chains.{or_none}

-- whether two texts are equal doesn't depend on their order
pub swapped : (a b : List ℕ) → bytes_eq a b ≡ bytes_eq b a
swapped a b =
    let d = bytes_eq-Decides b a in
    let back : Decides (bytes_eq b a) (a ≡ b) = (λ e. sym (d.0 e), λ e. d.1 (sym e)) in
    one_answer {P = a ≡ b} (bytes_eq a b) (bytes_eq b a) (bytes_eq-Decides a b) back

behind : (ds : List Decl) (d : Decl) (q : List ℕ)
    → context_of (ds ++ d ∷ []) q ≡ option_or (context_of ds q)
    (cond (bytes_eq q d.name) (Some (label_and_shape d)) None)
behind [] d q = refl
behind (x ∷ ds) d q = by (bytes_eq q x.name) (behind ds d q) where
  by : (b : Bool) → context_of (ds ++ d ∷ []) q ≡ option_or (context_of ds q)
      (cond (bytes_eq q d.name) (Some (label_and_shape d)) None)
      → cond b (Some (label_and_shape x)) (context_of (ds ++ d ∷ []) q) ≡ option_or
      (cond b (Some (label_and_shape x)) (context_of ds q)) (cond (bytes_eq q d.name) (Some (label_and_shape d)) None)
  by true h = refl
  by false h = h

last_or : {X : Type 0} (b : Bool) (k : X) (c : Option X) → (b ≡ true → c ≡ None)
    → cond b (Some k) c ≡ option_or c (cond b (Some k) None)
last_or true k c h = sym (ap (λ z. option_or z (Some k)) (h refl))
last_or false k c h = or_none c

-- one more declaration, if its name is new
pub declared_last : (ds : List Decl) (d : Decl) → context_of ds d.name ≡ None → (q : List ℕ)
    → cond (bytes_eq d.name q) (Some (label_and_shape d)) (context_of ds q) ≡ context_of (ds ++ d ∷ []) q
declared_last ds d new q =
    last_or (bytes_eq d.name q) (label_and_shape d) (context_of ds q)
    (λ e. subst (λ z. context_of ds z ≡ None) ((bytes_eq-Decides d.name q).0 e) new)
    ∙ ap (λ b. option_or (context_of ds q) (cond b (Some (label_and_shape d)) None)) (swapped d.name q)
    ∙ sym (behind ds d q)
