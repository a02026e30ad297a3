-- The words of a note, one by one.
use Rattle.std.proofs.Common.{◌≡◌, ℕ, suc, ◌+◌, ◌≤◌, ◌<◌, List, [], ◌∷◌, ◌++◌, length, get_or, drop, Option, Some, None, refl, sym, ap, append_assoc, add-one, drop-cons}
use Rattle.std.specs.Prelude.{option_map}
use Rattle.std.proofs.lemmas.List.{append-nil, drop_all}
use Rattle.lt_assembler.specs.Prelude.{Word, claim_of, claims_of}

onto : (front : List ℕ) (claim : ℕ) (rest : Option (List ℕ))
    → option_map (λ (cs : List ℕ). front ++ cs) (option_map (λ (cs : List ℕ). claim ∷ cs) rest)
    ≡ option_map (λ (cs : List ℕ). (front ++ claim ∷ []) ++ cs) rest
onto front claim None = refl
onto front claim (Some rest) = ap (λ (cs : List ℕ). Some cs) (sym (append_assoc front (claim ∷ []) rest))

-- one more word is a claim
pub claims_go_on : (banks : ℕ) (words : List Word) (i : ℕ) (front : List ℕ) (claim : ℕ)
    → i < length words → claim_of banks (get_or words i []) ≡ Some claim
    → option_map (λ (cs : List ℕ). front ++ cs) (claims_of banks (drop i words))
    ≡ option_map (λ (cs : List ℕ). (front ++ claim ∷ []) ++ cs) (claims_of banks (drop (i + 1) words))
claims_go_on banks words i front claim lt here =
    rw (drop-cons words i [] lt, add-one, here) (onto front claim (claims_of banks (drop (suc i) words)))

-- a word isn't a claim
pub claims_fail : (banks : ℕ) (words : List Word) (i : ℕ) (front : List ℕ)
    → i < length words → claim_of banks (get_or words i []) ≡ None
    → option_map (λ (cs : List ℕ). front ++ cs) (claims_of banks (drop i words)) ≡ None
claims_fail banks words i front lt here = rw (drop-cons words i [] lt, here) refl

-- all words were read
pub claims_end : (banks : ℕ) (words : List Word) (i : ℕ) (front : List ℕ) → length words ≤ i
    → option_map (λ (cs : List ℕ). front ++ cs) (claims_of banks (drop i words)) ≡ Some front
claims_end banks words i front le = rw (drop_all i words le) (ap (λ (cs : List ℕ). Some cs) (append-nil front))
