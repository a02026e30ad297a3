-- The share of an object in range fits a plan's ranges.
use Rattle.std.proofs.Common.{ℕ, suc, ◌<◌, ◌≤◌, max, List, [], ◌∷◌, length, map, get_or, arith}
use Rattle.std.specs.Prelude.{fold}
use Rattle.lt_isa.specs.Prelude.{most_latency, Parts, no_bank, IsInRange}
use Rattle.lt_isa.proofs.Cycles.{bank-fits, latency-greatest, latency-least}
use Rattle.bus_arbiter.specs.Prelude.{ShareFits, share_of}

fold-most : {X : Type 0} (f : X → ℕ) (xs : List X) (d : X) (a most : ℕ) → a ≤ most
    → ((i : ℕ) → i < length xs → f (get_or xs i d) ≤ most) → fold max a (map f xs) ≤ most
fold-most f [] d a most le all = le
fold-most f (x ∷ xs) d a most le all =
    fold-most f xs d (max a (f x)) most (omega (arith, le, all 0 (omega arith)))
    (λ i within. all (suc i) (omega (arith, within)))

pub share-fits : (o : Parts) → IsInRange o → ShareFits (share_of o)
share-fits o fits =
    let some : 0 < length o.banks = omega (arith, fits.bank_count.0) in
    record {
      window = omega (arith, fits.profile.closes.0);
      within = fits.profile.closes.1;
      most = fits.profile.period.1;
      some = omega (arith, latency-least o fits 0 some, latency-greatest o 0 some);
      most_longest =
          fold-most (λ b. b.latency) o.banks no_bank 0 most_latency (omega arith)
          (λ i within. (bank-fits o fits i within).latency.1);
    }
