-- The next event that waits, or that none is left.
use Rattle.std.proofs.Common.{◌≡◌, Bool, true, false, ◌&&◌, refl, sym}
use Rattle.std.proofs.lemmas.Bool.{true≢false}

-- ---- the test whether more is to be read

pub all-three : (a b c : Bool) → a && (b && c) ≡ true → (a ≡ true) × (b ≡ true) × (c ≡ true)
all-three true true true is = (refl, refl, refl)
all-three true true false is = absurd (true≢false (sym is))
all-three true false c is = absurd (true≢false (sym is))
all-three false b c is = absurd (true≢false (sym is))
