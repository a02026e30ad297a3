-- A tree whose path was moved into the stash.
use Rattle.std.proofs.Common.{◌≡◌, ℕ, zero, suc, ◌+◌, ◌<◌, ◌≤◌, ◌≢◌, List, [], ◌++◌, length, get_or, set, refl, sym, ap, subst, ◌∙◌, arith, append_assoc, ⊎_elim, get_or-set_same, get_or-set_other, length-set, length-append}
use Rattle.std.specs.List.{All}
use Rattle.std.proofs.lemmas.List.Elements.{All-set}
use Rattle.std.specs.List.Sorted.{IsPermutation}
use Rattle.std.proofs.lemmas.List.{append-nil}
use Rattle.std.proofs.lemmas.List.Sorted.{IsPermutation-refl, IsPermutation-trans, length_permutation}
use Rattle.std.proofs.lemmas.Bool.{cases_eq}
use Rattle.path_oram.specs.Prelude.{held, path_blocks, all_blocks, poured}
use Rattle.path_oram.proofs.Moves.{everything, all_poured}

-- the number of buckets stays
pub poured_size : (path : ℕ → ℕ) (tree : List (List ℕ)) (n : ℕ) → length (poured path tree n) ≡ length tree
poured_size path tree zero = refl
poured_size path tree (suc n) = length-set (poured path tree n) (path n) [] ∙ poured_size path tree n

-- a bucket that wasn't emptied
pub poured_off : (path : ℕ → ℕ) (tree : List (List ℕ)) (n number : ℕ) → ((level : ℕ) → level < n → number ≢ path level)
    → held (poured path tree n) number ≡ held tree number
poured_off path tree zero number off = refl
poured_off path tree (suc n) number off =
    get_or-set_other (poured path tree n) (path n) number [] [] (off n (omega arith))
    ∙ poured_off path tree n number (λ level less. off level (omega arith))

-- a bucket that was emptied
pub poured_on : (path : ℕ → ℕ) (tree : List (List ℕ)) (n level : ℕ) → level < n
    → ((l : ℕ) → l < n → path l < length tree) → held (poured path tree n) (path level) ≡ []
poured_on path tree zero level less within = absurd (omega arith)
poured_on path tree (suc n) level less within =
    let inside : path n < length (poured path tree n) = omega
    (arith, poured_size path tree n, within n (omega arith)) in
    ⊎_elim
    (λ same. subst (λ k. get_or (set (poured path tree n) (path n) []) k [] ≡ []) (sym same)
    (get_or-set_same (poured path tree n) (path n) [] [] inside))
    (λ other. ⊎_elim
    (λ last. absurd (other (ap path last)))
    (λ before.
    get_or-set_other (poured path tree n) (path n) (path level) [] [] other
    ∙ poured_on path tree n level (omega arith) (λ l small. within l (omega arith)))
    (cases_eq level n))
    (cases_eq (path level) (path n))

-- no block is lost
pub poured_all :
    (path : ℕ → ℕ) (stash : List ℕ) (tree : List (List ℕ)) (n : ℕ)
    → ((l : ℕ) → l < n → path l < length tree)
    → ((a b : ℕ) → a < n → b < n → a ≢ b → path a ≢ path b)
    → IsPermutation (all_blocks stash tree) (all_blocks (stash ++ path_blocks path tree n) (poured path tree n))
poured_all path stash tree zero within differ = rw append-nil (IsPermutation-refl (all_blocks stash tree))
poured_all path stash tree (suc n) within differ =
    let before = poured path tree n in
    let so_far = stash ++ path_blocks path tree n in
    let inside : path n < length before = omega (arith, poured_size path tree n, within n (omega arith)) in
    let same : held before (path n) ≡ held tree (path n) = poured_off path tree n (path n)
    (λ level less. differ n level (omega arith) (omega arith) (omega arith)) in
    let step : IsPermutation (all_blocks so_far before)
    (all_blocks (so_far ++ held tree (path n)) (set before (path n) [])) =
    subst (λ l. IsPermutation (all_blocks so_far before) (all_blocks (so_far ++ l) (set before (path n) []))) same
    (all_poured so_far before (path n) inside) in
    IsPermutation-trans (all_blocks stash tree) (all_blocks so_far before)
    (all_blocks (stash ++ path_blocks path tree (suc n)) (poured path tree (suc n)))
    (poured_all path stash tree n (λ l less. within l (omega arith))
    (λ a b first second. differ a b (omega arith) (omega arith)))
    (subst (λ l. IsPermutation (all_blocks so_far before) (all_blocks l (set before (path n) [])))
    (append_assoc stash (path_blocks path tree n) (held tree (path n))) step)

-- there is room in the stash for a bucket's blocks
pub poured_room :
    (path : ℕ → ℕ) (stash : List ℕ) (tree : List (List ℕ)) (n : ℕ)
    → ((l : ℕ) → l < suc n → path l < length tree)
    → ((a b : ℕ) → a < n → b < n → a ≢ b → path a ≢ path b)
    → length (stash ++ path_blocks path tree n) + length (held (poured path tree n) (path n)) ≤ length
    (all_blocks stash tree)
poured_room path stash tree n within differ =
    let before = poured path tree n in
    let so_far = stash ++ path_blocks path tree n in
    let inside : path n < length before = omega (arith, poured_size path tree n, within n (omega arith)) in
    let all = length_permutation (all_blocks stash tree) (all_blocks so_far before)
    (poured_all path stash tree n (λ l less. within l (omega arith)) differ) in
    let out = length_permutation (all_blocks so_far before)
    (all_blocks (so_far ++ held before (path n)) (set before (path n) [])) (all_poured so_far before (path n) inside) in
    omega (
      arith,
      all,
      out,
      length-append (so_far ++ held before (path n))
          (everything (set before (path n) [])),
      length-append so_far (held before (path n)),
    )

-- one more level
pub poured_more : (path : ℕ → ℕ) (tree now : List (List ℕ)) (level number : ℕ) → now ≡ poured path tree level
    → number ≡ path level → set now number [] ≡ poured path tree (level + 1)
poured_more path tree now level number so_far is =
    let next : suc level ≡ level + 1 = omega arith in
    subst (λ n. set now number [] ≡ poured path tree n) next (rw (so_far, is) refl)

-- one more bucket of the path is moved into the stash
pub stash_more :
    (path : ℕ → ℕ) (tree now : List (List ℕ)) (old stash : List ℕ) (level number : ℕ)
    → ((l : ℕ) → l < level → path level ≢ path l)
    → now ≡ poured path tree level → number ≡ path level → stash ≡ old ++ path_blocks path tree level
    → stash ++ held now number ≡ old ++ path_blocks path tree (level + 1)
stash_more path tree now old stash level number differ so_far is held_by =
    let next : suc level ≡ level + 1 = omega arith in
    let same : held now number ≡ held tree (path level) = rw (so_far, is)
    (poured_off path tree level (path level) differ) in
    subst (λ n. stash ++ held now number ≡ old ++ path_blocks path tree n) next
    (rw (same, held_by) (append_assoc old (path_blocks path tree level) (held tree (path level))))

-- no bucket has more blocks than before
pub poured_most : (path : ℕ → ℕ) (tree : List (List ℕ)) (n : ℕ) → All (λ bucket. length bucket ≤ 4) tree
    → All (λ bucket. length bucket ≤ 4) (poured path tree n)
poured_most path tree zero most = most
poured_most path tree (suc n) most =
    All-set (λ bucket. length bucket ≤ 4) (poured path tree n) (path n) [] (omega arith) (poured_most path tree n most)
