-- A test of each number below a bound, so that a fact about few numbers can be proved by computing.
use Rattle.std.proofs.Common.{◌≡◌, ℕ, zero, suc, ◌<◌, ◌&&◌, Bool, true, false, refl, ap, ◌∙◌, arith, ⊎_elim}
use Rattle.std.proofs.lemmas.Bool.{cases_eq}

abbrev pub all_below : (ℕ → Bool) → ℕ → Bool
all_below test zero = true
all_below test (suc n) = test n && all_below test n

first_true : (a b : Bool) → (a && b) ≡ true → a ≡ true
first_true true b e = refl
first_true false b e = absurd (let f : false ≡ true = e in cc)

second_true : (a b : Bool) → (a && b) ≡ true → b ≡ true
second_true true b e = e
second_true false b e = absurd (let f : false ≡ true = e in cc)

pub tested : (test : ℕ → Bool) (n k : ℕ) → k < n → all_below test n ≡ true → test k ≡ true
tested test zero k lt all = absurd (omega (arith, lt))
tested test (suc n) k lt all =
    let earlier = λ (less : k < n). tested test n k less (second_true (test n) (all_below test n) all) in
    ⊎_elim (λ same. ap test same ∙ first_true (test n) (all_below test n) all)
    (λ other. earlier (omega (arith, lt, other))) (cases_eq k n)
