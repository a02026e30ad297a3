-- The accesses to one bank.
use Rattle.std.proofs.Common.{◌≡◌, ◌≢◌, ℕ, cond, List, [], ◌∷◌, ◌++◌, Bool, true, false, refl, ap, ◌∙◌}
use Rattle.std.proofs.lemmas.Bool.{eq-eqb, ne_eqb}
use Rattle.std.specs.Prelude.{◌==◌}
use Rattle.banks.specs.Prelude.{Access, in_bank}

-- the accesses to one bank in two lists of accesses
pub in_bank-append : (b : ℕ) (xs ys : List Access) → in_bank b (xs ++ ys) ≡ in_bank b xs ++ in_bank b ys
in_bank-append b [] ys = refl
in_bank-append b (x ∷ xs) ys =
    ap (λ rest. cond (b == x.bank) (x.block ∷ rest) rest) (in_bank-append b xs ys) ∙ chosen (b == x.bank)
  where
    chosen : (same : Bool)
        → cond same (x.block ∷ (in_bank b xs ++ in_bank b ys)) (in_bank b xs ++ in_bank b ys)
        ≡ cond same (x.block ∷ in_bank b xs) (in_bank b xs) ++ in_bank b ys
    chosen true = refl
    chosen false = refl

-- an access to this bank, and an access to another one
pub in_bank-this : (b : ℕ) (access : Access) (rest : List Access)
    → b ≡ access.bank → in_bank b (access ∷ rest) ≡ access.block ∷ in_bank b rest
in_bank-this b access rest is =
    ap (λ same. cond same (access.block ∷ in_bank b rest) (in_bank b rest)) (eq-eqb b access.bank is)

pub in_bank-other : (b : ℕ) (access : Access) (rest : List Access)
    → b ≢ access.bank → in_bank b (access ∷ rest) ≡ in_bank b rest
in_bank-other b access rest other =
    ap (λ same. cond same (access.block ∷ in_bank b rest) (in_bank b rest)) (ne_eqb b access.bank other)
