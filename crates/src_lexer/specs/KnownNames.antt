-- For private clauses only: the names of a text that were read so far, by their bytes.
use Rattle.std.specs.Prelude.{◌≡◌, ℕ, List, IfSome}
use Rattle.std.specs.Borrow.{Bor}
use Rattle.std.specs.BTreeMap.{BTreeMap}
use Rattle.gr_base.specs.NameMaps.{found_under}

-- the name under any bytes consists of these bytes
abbrev pub HoldsOwn : BTreeMap (Bor (List ℕ)) (List ℕ) → Type 0
HoldsOwn names = (bytes : List ℕ) → IfSome (found_under names bytes) (λ name. name ≡ bytes)
