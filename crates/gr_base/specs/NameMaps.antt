-- Maps from names, which are bytes, to values. (This project's profile.)
use Rattle.std.specs.Prelude.{ℕ, List, Option}
use Rattle.std.specs.Borrow.{Bor}
use Rattle.std.specs.Ordering.{nat_cmp}
use Rattle.std.specs.Cmp.Lexicographic.{slice_cmp}
use Rattle.std.specs.BTreeMap.{BTreeMap, get_by}

-- the value of a name in a map
abbrev pub found_under : {V : Type 0} → BTreeMap (Bor (List ℕ)) V → List ℕ → Option V
found_under names name = get_by (λ k. slice_cmp nat_cmp name k.now) names
