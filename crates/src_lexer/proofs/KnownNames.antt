-- A name is added to the names of a text under its own bytes.
use Rattle.std.proofs.Common.{◌≡◌, ℕ, Bool, true, false, cond, List, Option, Some, ◌∙◌, sym, subst, refl}
use Rattle.std.specs.Prelude.{IfSome, bytes_eq}
use Rattle.std.specs.Borrow.{Bor}
use Rattle.std.specs.BTreeMap.{BTreeMap, get, is_at}
use Rattle.std.proofs.lemmas.Slice.Eq.{bytes_eq-Decides}
use Rattle.gr_base.specs.Prelude.{found_under}
use Rattle.gr_base.proofs.NameMaps.{key_cmp, name_added}
use Rattle.src_lexer.specs.Prelude.{HoldsOwn}

-- the name under some bytes
pub own_found : (m : BTreeMap (Bor (List ℕ)) (List ℕ)) (bytes name : List ℕ)
    → Some name ≡ found_under m bytes → HoldsOwn m → name ≡ bytes
own_found m bytes name found own = subst (λ f. IfSome f (λ n. n ≡ bytes)) (sym found) (own bytes)

one_of : (same : Bool) (own bytes : List ℕ) (other : Option (List ℕ)) → (same ≡ true → own ≡ bytes)
    → IfSome other (λ name. name ≡ bytes) → IfSome (cond same (Some own) other) (λ name. name ≡ bytes)
one_of true own bytes other is_own others = is_own refl
one_of false own bytes other is_own others = others

-- one more name, under its bytes
pub own_added : (m n : BTreeMap (Bor (List ℕ)) (List ℕ)) (k : Bor (List ℕ)) (name : List ℕ) → name ≡ k.now
    → ((q : Bor (List ℕ)) → get key_cmp n q ≡ cond (is_at (key_cmp k) q) (Some name) (get key_cmp m q))
    → HoldsOwn m → HoldsOwn n
own_added m n k name is_own h own bytes =
    subst (λ found. IfSome found (λ other. other ≡ bytes)) (sym (name_added m n k name h bytes))
    (one_of (bytes_eq k.now bytes) name bytes (found_under m bytes)
    (λ same. is_own ∙ (bytes_eq-Decides k.now bytes).0 same) (own bytes))
