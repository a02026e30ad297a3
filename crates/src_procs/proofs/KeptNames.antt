-- An expression without names that begin with `__` keeps its names.
use Rattle.std.proofs.Common.{◌≡◌, ℕ, Bool, true, false, List, refl, ap, ◌∙◌}
use Rattle.std.specs.Prelude.{◌||◌}
use Rattle.src_tree.specs.Prelude.{Tree, Number, Variable, Element, Operation}
use Rattle.procs_tree.specs.Prelude.{is_hidden, kept_name, renamed}
use Rattle.src_procs.specs.Prelude.{has_hidden}

first_not : (a b : Bool) → a || b ≡ false → a ≡ false
first_not true b e = absurd (cc)
first_not false b e = refl

second_not : (a b : Bool) → a || b ≡ false → b ≡ false
second_not true b e = absurd (cc)
second_not false b e = e

kept_so : (x : List ℕ) → is_hidden x ≡ false → kept_name x ≡ x
kept_so x e = rw e refl

pub kept_whole : (t : Tree) → has_hidden t ≡ false → renamed kept_name t ≡ t
kept_whole (Number z) e = refl
kept_whole (Variable x) e = ap Variable (kept_so x e)
kept_whole (Element x i) e =
    ap (λ y. Element y (renamed kept_name i)) (kept_so x (first_not (is_hidden x) (has_hidden i) e))
    ∙ ap (Element x) (kept_whole i (second_not (is_hidden x) (has_hidden i) e))
kept_whole (Operation op a b) e =
    ap (λ c. Operation op c (renamed kept_name b)) (kept_whole a (first_not (has_hidden a) (has_hidden b) e))
    ∙ ap (Operation op a) (kept_whole b (second_not (has_hidden a) (has_hidden b) e))
