-- A map of names after a name was added.
use Rattle.std.proofs.Common.{◌≡◌, ℕ, cond, List, Some, ap, ◌∙◌}
use Rattle.std.specs.Prelude.{bytes_eq}
use Rattle.std.specs.Borrow.{Bor}
use Rattle.std.specs.declared.cmp.Ordering.{Ordering}
use Rattle.std.specs.Ordering.{nat_cmp}
use Rattle.std.specs.Cmp.Lexicographic.{slice_cmp}
use Rattle.std.specs.BTreeMap.{BTreeMap, get, is_at}
use Rattle.std.proofs.lemmas.Map.Text.{is_eq-slice_cmp}
use Rattle.gr_base.specs.Prelude.{found_under}

-- the order of names
abbrev pub key_cmp : Bor (List ℕ) → Bor (List ℕ) → Ordering
key_cmp a b = slice_cmp nat_cmp a.now b.now

-- the value of each name after one was added
pub name_added : {V : Type 0} (m n : BTreeMap (Bor (List ℕ)) V) (k : Bor (List ℕ)) (v : V)
    → ((q : Bor (List ℕ)) → get key_cmp n q ≡ cond (is_at (key_cmp k) q) (Some v) (get key_cmp m q))
    → (name : List ℕ) → found_under n name ≡ cond (bytes_eq k.now name) (Some v) (found_under m name)
name_added m n k v h name =
    h (record k { now = name }) ∙ ap (λ b. cond b (Some v) (found_under m name)) (is_eq-slice_cmp k.now name)
