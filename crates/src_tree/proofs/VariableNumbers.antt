-- The numbers of declared names, and the declaration with a number.
use Rattle.std.proofs.Common.{◌≡◌, ℕ, zero, suc, ◌+◌, ◌<◌, Bool, true, false, cond, List, [], ◌∷◌, length, take, get_or, Some, None, refl, sym, ap, ◌∙◌, arith}
use Rattle.std.specs.Prelude.{bytes_eq}
use Rattle.std.proofs.lemmas.Option.{none-some}
use Rattle.gr_base.proofs.EachAfter.{EachAfter-at}
use Rattle.gr_base.proofs.ListTests.{bytes_eq-own}
use Rattle.gr_word.specs.declared.variables.Label.{Label}
use Rattle.gr_word.specs.declared.variables.Shape.{Shape}
use Rattle.src_tree.specs.declared.trees.Decl.{Decl}
use Rattle.src_tree.specs.Prelude.{context_of, label_and_shape, variable_number, DeclaredOnce}

-- two names with the same number are declared alike
pub same-number : (ds : List Decl) (x y : List ℕ) (kind : Label × Shape) → context_of ds x ≡ Some kind
    → variable_number ds x ≡ variable_number ds y → context_of ds y ≡ Some kind
same-number [] x y kind known same = absurd (none-some kind known)
same-number (d ∷ ds) x y kind known same =
    here (bytes_eq x d.name) (bytes_eq y d.name) known same (same-number ds x y kind)
  where
    here : (a b : Bool) → cond a (Some (label_and_shape d)) (context_of ds x) ≡ Some kind
        → cond a 0 (1 + variable_number ds x) ≡ cond b 0 (1 + variable_number ds y)
        → (context_of ds x ≡ Some kind → variable_number ds x ≡ variable_number ds y → context_of ds y ≡ Some kind)
        → cond b (Some (label_and_shape d)) (context_of ds y) ≡ Some kind
    here true true known same rest = known
    here true false known same rest = absurd (omega arith)
    here false true known same rest = absurd (omega arith)
    here false false known same rest = rest known (omega arith)

-- the number of a declared name is that of a declaration
pub number-below : (ds : List Decl) (x : List ℕ) (kind : Label × Shape) → context_of ds x ≡ Some kind
    → variable_number ds x < length ds
number-below [] x kind known = absurd (none-some kind known)
number-below (d ∷ ds) x kind known = by (bytes_eq x d.name) known (number-below ds x kind)
  where
    by : (same : Bool) → cond same (Some (label_and_shape d)) (context_of ds x) ≡ Some kind
        → (context_of ds x ≡ Some kind → variable_number ds x < length ds)
        → cond same 0 (1 + variable_number ds x) < suc (length ds)
    by true known below = omega arith
    by false known below = omega (arith, below known)

behind : (d : Decl) (ds : List Decl) (n : ℕ) (default : Decl) → get_or (d ∷ ds) (1 + n) default ≡ get_or ds n default
behind d ds n default = let next : 1 + n ≡ suc n = omega arith in ap (λ k. get_or (d ∷ ds) k default) next

-- the declaration with a name's number declares the name
pub kind-at_number : (ds : List Decl) (x : List ℕ) (default : Decl) → variable_number ds x < length ds
    → context_of ds x ≡ Some (label_and_shape (get_or ds (variable_number ds x) default))
kind-at_number [] x default below = absurd (omega arith)
kind-at_number (d ∷ ds) x default below = by (bytes_eq x d.name) below (kind-at_number ds x default)
  where
    by : (same : Bool) → cond same 0 (1 + variable_number ds x) < suc (length ds)
        → (variable_number ds x < length ds
        → context_of ds x ≡ Some (label_and_shape (get_or ds (variable_number ds x) default)))
        → cond same (Some (label_and_shape d)) (context_of ds x)
        ≡ Some (label_and_shape (get_or (d ∷ ds) (cond same 0 (1 + variable_number ds x)) default))
    by true below rest = refl
    by false below rest =
        rest (omega (arith, below)) ∙ ap (λ e. Some (label_and_shape e))
        (sym (behind d ds (variable_number ds x) default))

some-same : (a b : Label × Shape) → Some a ≡ Some b → a ≡ b
some-same a b e = cc

-- a declared name is what the declaration with its number says
pub kind-of_number : (ds : List Decl) (x : List ℕ) (default : Decl) (kind : Label × Shape) → context_of ds x ≡ Some kind
    → label_and_shape (get_or ds (variable_number ds x) default) ≡ kind
kind-of_number ds x default kind known =
    some-same _ kind (sym (kind-at_number ds x default (number-below ds x kind known)) ∙ known)

number-behind : (ds : List Decl) (x : List ℕ) (k : ℕ) (default : Decl) → k < length ds → (get_or ds k default).name ≡ x
    → context_of (take k ds) x ≡ None → variable_number ds x ≡ k
number-behind [] x k default within named new = absurd (omega arith)
number-behind (d ∷ ds) x zero default within named new =
    ap (λ same. cond same 0 (1 + variable_number ds x)) (ap (λ n. bytes_eq x n) named ∙ bytes_eq-own x)
number-behind (d ∷ ds) x (suc k) default within named new =
    by (bytes_eq x d.name) new (number-behind ds x k default (omega arith) named)
  where
    by : (same : Bool) → cond same (Some (label_and_shape d)) (context_of (take k ds) x) ≡ None
        → (context_of (take k ds) x ≡ None → variable_number ds x ≡ k) → cond same 0 (1 + variable_number ds x) ≡ suc k
    by true new rest = absurd (cc)
    by false new rest = omega (arith, rest new)

-- if each name is declared once, the number of a declaration's name is its place
pub number-of_declared : (ds : List Decl) → DeclaredOnce ds → (k : ℕ) (default : Decl) → k < length ds
    → variable_number ds (get_or ds k default).name ≡ k
number-of_declared ds once k default within =
    number-behind ds (get_or ds k default).name k default within refl
    (EachAfter-at (λ before d. context_of before d.name ≡ None) [] ds once k default within)
