-- Longest runs at the beginning of a text.
use Rattle.std.proofs.Common.{◌≡◌, ◌⊎◌, inl, inr, ℕ, suc, ◌+◌, Bool, true, false, cond, List, [], ◌∷◌, ◌++◌, length, take, drop, refl, ap, ◌∙◌, arith}
use Rattle.std.specs.Prelude.{slice_index}
use Rattle.std.specs.List.{prefix_len, list_all}
use Rattle.std.proofs.lemmas.Bool.{and_parts, and_from}

one_and : (n : ℕ) → 1 + n ≡ suc n
one_and n = omega arith

each_step : (p : ℕ → Bool) (x : ℕ) (xs : List ℕ) (b : Bool) → p x ≡ b → list_all p (take (prefix_len p xs) xs) ≡ true
    → list_all p (take (cond b (1 + prefix_len p xs) 0) (x ∷ xs)) ≡ true
each_step p x xs true e h = rw (one_and (prefix_len p xs)) (and_from _ _ e h)
each_step p x xs false e h = refl

-- all bytes of the longest run pass the test
pub prefix_each : (p : ℕ → Bool) (xs : List ℕ) → list_all p (take (prefix_len p xs) xs) ≡ true
prefix_each p [] = refl
prefix_each p (x ∷ xs) = each_step p x xs (p x) refl (prefix_each p xs)

ends_step : (p : ℕ → Bool) (x : ℕ) (xs : List ℕ) (b : Bool)
    → p x ≡ b → (drop (prefix_len p xs) xs ≡ []) ⊎ (p (slice_index (drop (prefix_len p xs) xs) 0) ≡ false)
    → (drop (cond b (1 + prefix_len p xs) 0) (x ∷ xs) ≡ [])
    ⊎ (p (slice_index (drop (cond b (1 + prefix_len p xs) 0) (x ∷ xs)) 0) ≡ false)
ends_step p x xs true e h = rw (one_and (prefix_len p xs)) h
ends_step p x xs false e h = inr e

-- the byte after the longest run doesn't pass the test
pub prefix_ends : (p : ℕ → Bool) (xs : List ℕ)
    → (drop (prefix_len p xs) xs ≡ []) ⊎ (p (slice_index (drop (prefix_len p xs) xs) 0) ≡ false)
prefix_ends p [] = inl refl
prefix_ends p (x ∷ xs) = ends_step p x xs (p x) refl (prefix_ends p xs)

stop_step : (p : ℕ → Bool) (rest : List ℕ) → (rest ≡ []) ⊎ (p (slice_index rest 0) ≡ false) → prefix_len p rest ≡ 0
stop_step p [] h = refl
stop_step p (x ∷ rest) (inl e) = absurd (cc)
stop_step p (x ∷ rest) (inr e) = ap (λ b. cond b (1 + prefix_len p rest) 0) e

-- a run whose bytes pass, before a byte that doesn't, is the longest
pub longest_prefix : (p : ℕ → Bool) (xs rest : List ℕ)
    → list_all p xs ≡ true → (rest ≡ []) ⊎ (p (slice_index rest 0) ≡ false) → prefix_len p (xs ++ rest) ≡ length xs
longest_prefix p [] rest all ends = stop_step p rest ends
longest_prefix p (x ∷ xs) rest all ends =
    let q = and_parts (p x) (list_all p xs) all in
    let t = longest_prefix p xs rest q.1 ends in
    ap (λ b. cond b (1 + prefix_len p (xs ++ rest)) 0) q.0 ∙ (ap (λ n. 1 + n) t ∙ one_and (length xs))
