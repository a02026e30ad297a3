-- The blocks of a tree after a bucket was emptied, or after one more block was added to it.
use Rattle.std.proofs.Common.{ℕ, zero, suc, ◌<◌, List, [], ◌∷◌, ◌++◌, length, set, sym, subst, arith, append_assoc}
use Rattle.std.specs.List.{flat_map}
use Rattle.std.specs.List.Sorted.{IsPermutation}
use Rattle.std.proofs.lemmas.List.Sorted.{IsPermutation-refl, IsPermutation-trans, IsPermutation-sym, IsPermutation-append_comm, IsPermutation-append_left, IsPermutation-append_right, IsPermutation-middle}
use Rattle.path_oram.specs.Prelude.{held, all_blocks}

-- all blocks in a tree
abbrev pub everything : List (List ℕ) → List ℕ
everything tree = flat_map (λ bucket. bucket) tree

-- two lists before a third are exchanged
pub exchanged : (a b c : List ℕ) → IsPermutation (a ++ (b ++ c)) (b ++ (a ++ c))
exchanged a b c =
    subst (λ l. IsPermutation l (b ++ (a ++ c))) (append_assoc a b c)
    (subst (λ l. IsPermutation ((a ++ b) ++ c) l) (append_assoc b a c)
    (IsPermutation-append_left c (a ++ b) (b ++ a) (IsPermutation-append_comm a b)))

-- one block before a list is moved after it
pub moved_behind : (b : ℕ) (xs ys : List ℕ) → IsPermutation (b ∷ (xs ++ ys)) (xs ++ b ∷ ys)
moved_behind b xs ys = IsPermutation-sym (xs ++ b ∷ ys) (b ∷ (xs ++ ys)) (IsPermutation-middle xs b ys)

pub poured_out : (tree : List (List ℕ)) (number : ℕ) → number < length tree
    → IsPermutation (everything tree) (held tree number ++ everything (set tree number []))
poured_out [] number within = absurd (omega arith)
poured_out (bucket ∷ tree) zero within = IsPermutation-refl (bucket ++ everything tree)
poured_out (bucket ∷ tree) (suc number) within =
    IsPermutation-trans (bucket ++ everything tree) (bucket ++ (held tree number ++ everything (set tree number [])))
    (held tree number ++ (bucket ++ everything (set tree number [])))
    (IsPermutation-append_right bucket (everything tree) (held tree number ++ everything (set tree number []))
    (poured_out tree number (omega arith)))
    (exchanged bucket (held tree number) (everything (set tree number [])))

pub put_in : (b : ℕ) (tree : List (List ℕ)) (number : ℕ) → number < length tree
    → IsPermutation (b ∷ everything tree) (everything (set tree number (held tree number ++ b ∷ [])))
put_in b [] number within = absurd (omega arith)
put_in b (bucket ∷ tree) zero within =
    subst (IsPermutation (b ∷ (bucket ++ everything tree))) (sym (append_assoc bucket (b ∷ []) (everything tree)))
    (moved_behind b bucket (everything tree))
put_in b (bucket ∷ tree) (suc number) within =
    let after = everything (set tree number (held tree number ++ b ∷ [])) in
    IsPermutation-trans (b ∷ (bucket ++ everything tree)) (bucket ++ b ∷ everything tree) (bucket ++ after)
    (moved_behind b bucket (everything tree))
    (IsPermutation-append_right bucket (b ∷ everything tree) after (put_in b tree number (omega arith)))

-- a bucket is moved into the stash
pub all_poured : (stash : List ℕ) (tree : List (List ℕ)) (number : ℕ) → number < length tree
    → IsPermutation (all_blocks stash tree) (all_blocks (stash ++ held tree number) (set tree number []))
all_poured stash tree number within =
    subst (IsPermutation (stash ++ everything tree))
    (sym (append_assoc stash (held tree number) (everything (set tree number []))))
    (IsPermutation-append_right stash (everything tree) (held tree number ++ everything (set tree number []))
    (poured_out tree number within))

-- a block is moved from the stash into a bucket
pub all_put : (b : ℕ) (stash rest : List ℕ) (tree : List (List ℕ)) (number : ℕ) → number < length tree
    → IsPermutation stash (b ∷ rest)
    → IsPermutation (all_blocks stash tree) (all_blocks rest (set tree number (held tree number ++ b ∷ [])))
all_put b stash rest tree number within taken =
    let after = everything (set tree number (held tree number ++ b ∷ [])) in
    IsPermutation-trans (stash ++ everything tree) (b ∷ (rest ++ everything tree)) (rest ++ after)
    (IsPermutation-append_left (everything tree) stash (b ∷ rest) taken)
    (IsPermutation-trans (b ∷ (rest ++ everything tree)) (rest ++ b ∷ everything tree) (rest ++ after)
    (moved_behind b rest (everything tree))
    (IsPermutation-append_right rest (b ∷ everything tree) after (put_in b tree number within)))
