-- The blocks in the buckets of a path, after a bucket was changed.
use Rattle.std.proofs.Common.{◌≡◌, ℕ, zero, suc, ◌<◌, ◌≢◌, List, [], ◌∷◌, ◌++◌, length, set, refl, sym, subst, arith, append_assoc, ⊎_elim, get_or-set_same, get_or-set_other}
use Rattle.std.specs.List.{All}
use Rattle.std.specs.List.Sorted.{IsPermutation}
use Rattle.std.proofs.lemmas.List.Elements.{All-append, All-nil}
use Rattle.std.proofs.lemmas.List.Sorted.{IsPermutation-sym, IsPermutation-append_left, IsPermutation-to_front}
use Rattle.std.proofs.lemmas.Bool.{cases_eq}
use Rattle.path_oram.specs.Prelude.{held, path_blocks}

-- a property of the blocks of each bucket
pub path_all : (P : ℕ → Type 0) (path : ℕ → ℕ) (tree : List (List ℕ)) (n : ℕ)
    → ((level : ℕ) → level < n → All P (held tree (path level))) → All P (path_blocks path tree n)
path_all P path tree zero each = All-nil P
path_all P path tree (suc n) each =
    All-append P (path_blocks path tree n) (held tree (path n))
    (path_all P path tree n (λ level less. each level (omega arith))) (each n (omega arith))

-- trees with the same buckets on a path
pub path_same : (path : ℕ → ℕ) (one two : List (List ℕ)) (n : ℕ)
    → ((level : ℕ) → level < n → held one (path level) ≡ held two (path level))
    → path_blocks path one n ≡ path_blocks path two n
path_same path one two zero same = refl
path_same path one two (suc n) same =
    rw (path_same path one two n (λ level less. same level (omega arith)), same n (omega arith)) refl

-- a bucket off the path was changed
pub path_other : (path : ℕ → ℕ) (tree : List (List ℕ)) (number : ℕ) (bucket : List ℕ) (n : ℕ)
    → ((level : ℕ) → level < n → path level ≢ number)
    → path_blocks path (set tree number bucket) n ≡ path_blocks path tree n
path_other path tree number bucket n off =
    path_same path (set tree number bucket) tree n
    (λ level less. get_or-set_other tree number (path level) bucket [] (off level less))

-- a path of empty buckets has no blocks
pub path_empty : (path : ℕ → ℕ) (tree : List (List ℕ)) (n : ℕ) → ((level : ℕ) → level < n → held tree (path level) ≡ [])
    → path_blocks path tree n ≡ []
path_empty path tree zero empty = refl
path_empty path tree (suc n) empty =
    rw (path_empty path tree n (λ level less. empty level (omega arith)), empty n (omega arith)) refl

-- one more block was added to a bucket of the path
pub path_put :
    (b : ℕ) (path : ℕ → ℕ) (tree : List (List ℕ)) (n m : ℕ) → m < n → path m < length tree
    → ((level : ℕ) → level < n → level ≢ m → path level ≢ path m)
    → IsPermutation (b ∷ path_blocks path tree n)
    (path_blocks path (set tree (path m) (held tree (path m) ++ b ∷ [])) n)
path_put b path tree zero m less within differ = absurd (omega arith)
path_put b path tree (suc n) m less within differ =
    let after = set tree (path m) (held tree (path m) ++ b ∷ []) in
    let blocks = path_blocks path tree n in
    ⊎_elim
    (λ same.
    let others : path_blocks path after n ≡ blocks = path_other path tree (path m) (held tree (path m) ++ b ∷ []) n
    (λ level small. differ level (omega arith) (omega arith)) in
    let here : held after (path n) ≡ held tree (path n) ++ b ∷ [] =
    subst (λ k. held after (path k) ≡ held tree (path k) ++ b ∷ []) same
    (get_or-set_same tree (path m) (held tree (path m) ++ b ∷ []) [] within) in
    rw (others, here)
    (subst (IsPermutation (b ∷ (blocks ++ held tree (path n)))) (append_assoc blocks (held tree (path n)) (b ∷ []))
    (IsPermutation-sym ((blocks ++ held tree (path n)) ++ b ∷ []) (b ∷ (blocks ++ held tree (path n)))
    (IsPermutation-to_front (blocks ++ held tree (path n)) b))))
    (λ other.
    let here : held after (path n) ≡ held tree (path n) = get_or-set_other tree (path m) (path n)
    (held tree (path m) ++ b ∷ []) [] (differ n (omega arith) (λ e. other (sym e))) in
    rw here
    (IsPermutation-append_left (held tree (path n)) (b ∷ blocks) (path_blocks path after n)
    (path_put b path tree n m (omega arith) within (λ level small. differ level (omega arith)))))
    (cases_eq m n)
