-- The two definitions of the greedy write-back agree if each block is stored once.
use Rattle.std.proofs.Common.{◌≡◌, ℕ, zero, suc, ◌+◌, ◌-◌, ◌^◌, ◌<◌, ◌≤◌, min, List, [], ◌∷◌, ◌++◌, length, get_or, Bool, true, false, not, cond, ◌&&◌, eqb, refl, sym, ap, subst, ◌∙◌, arith, append_assoc}
use Rattle.std.specs.List.{count_by, range_with_len}
use Rattle.std.proofs.lemmas.List.{append-nil}
use Rattle.std.proofs.lemmas.List.Sorted.{sum_by-IsPermutation}
use Rattle.std.proofs.lemmas.List.Sums.{sum_by-cons}
use Rattle.path_oram.specs.Prelude.{Places, on_path, held, hand, path_blocks, passes_bucket, all_blocks, IsWhole, poured, deeper_blocks, is_left_for, TakesWhatIsLeftWhereWhole}
use Rattle.path_oram.proofs.PathNumbers.{path_within, path_apart}
use Rattle.path_oram.proofs.Moves.{everything}
use Rattle.path_oram.proofs.Poured.{poured_all}
use Rattle.path_oram.proofs.Counted.{count_append, count_none}
use Rattle.path_oram.proofs.Once.{unit, times, times_range, times_item, none_is, some_is}

-- a path in two parts
pub path_split : (path : ℕ → ℕ) (tree : List (List ℕ)) (n m : ℕ)
    → path_blocks path tree (n + m) ≡ path_blocks path tree n ++ path_blocks (λ more. path (n + more)) tree m
path_split path tree n zero = let none : n + zero ≡ n = omega arith in rw (none, append-nil) refl
path_split path tree n (suc m) =
    let next : n + suc m ≡ suc (n + m) = omega arith in
    rw (next, path_split path tree n m)
    (append_assoc (path_blocks path tree n) (path_blocks (λ more. path (n + more)) tree m) (held tree (path (n + m))))

-- tests that agree on all items of a list
pub count_same : (p q : ℕ → Bool) (xs : List ℕ) → ((k d : ℕ) → k < length xs → p (get_or xs k d) ≡ q (get_or xs k d))
    → count_by p xs ≡ count_by q xs
count_same p q [] same = refl
count_same p q (x ∷ xs) same =
    sum_by-cons (λ y. cond (p y) 1 0) x xs
    ∙ rw (same 0 x (omega arith), count_same p q xs (λ k d less. same (suc k) d (omega arith)))
    (sym (sum_by-cons (λ y. cond (q y) 1 0) x xs))

-- a test, and another that is false or true
pub nothing_left : (b : Bool) → (b && not true) ≡ false
nothing_left true = refl
nothing_left false = refl

pub all_left : (b : Bool) → (b && not false) ≡ b
all_left true = refl
all_left false = refl

-- the hand has each block at most once
pub hand_once : (p : Places) (shown block : ℕ) → IsWhole p → shown < 2 ^ p.height
    → times block (hand p shown p.height) ≤ 1
hand_once p shown block whole small =
    let path = on_path p.height shown in
    let all = all_blocks p.stash p.tree in
    let rest = everything (poured path p.tree (suc p.height)) in
    let count : ℕ → ℕ = λ b. unit (eqb b block) in
    let one : times block all ≡ times block (range_with_len 0 (length p.leaves)) = sum_by-IsPermutation count
    (range_with_len 0 (length p.leaves)) all whole.once in
    let two : times block (hand p shown p.height ++ rest) ≡ times block all =
    sum_by-IsPermutation count all (hand p shown p.height ++ rest)
    (poured_all path p.stash p.tree (suc p.height)
    (path_within p.height shown (suc p.height) _ small whole.buckets (omega arith))
    (path_apart p.height shown (suc p.height) small (omega arith))) in
    omega (
      arith,
      one,
      two,
      count_append (λ b. eqb b block) (hand p shown p.height) rest,
      times_range block 0
          (length p.leaves),
    )

-- if each block is stored once, each bucket takes what is left for it
pub takes_what_is_left : TakesWhatIsLeftWhereWhole
takes_what_is_left before block shown after whole small greedy level low =
    let path = on_path after.height shown in
    let may = passes_bucket after.height after.leaves shown level in
    let left = is_left_for after shown level in
    let upper = hand after shown level in
    let deeper = deeper_blocks after shown level in
    let all = hand after shown after.height in
    let sum : suc level + (after.height - level) ≡ suc after.height = omega arith in
    let parts : all ≡ upper ++ deeper =
    ap (λ l. after.stash ++ l)
    (subst (λ n. path_blocks path after.tree n ≡ path_blocks path after.tree (suc level) ++ deeper) sum
    (path_split path after.tree (suc level) (after.height - level)))
    ∙ sym (append_assoc after.stash (path_blocks path after.tree (suc level)) deeper) in
    let moved : count_by left all ≡ count_by left (hand before shown before.height) =
    sum_by-IsPermutation (λ b. unit (left b)) (hand before shown before.height) all greedy.same in
    let taken : count_by left deeper ≡ 0 =
    count_none left deeper (λ k d less. rw (some_is deeper k d less) (nothing_left (may (get_or deeper k d)))) in
    let kept : count_by left upper ≡ count_by may upper =
    count_same left may upper (λ k d less.
    let b = get_or upper k d in
    let once : times b (upper ++ deeper) ≤ 1 = subst (λ l. times b l ≤ 1) parts (hand_once after shown b whole small) in
    let none : times b deeper ≡ 0 = omega
    (arith, once, count_append (λ x. eqb x b) upper deeper, times_item upper k d less) in
    rw (none_is b deeper none) (all_left (may b))) in
    let total : count_by left (hand before shown before.height) ≡ count_by may upper =
    sym moved ∙ ap (count_by left) parts ∙ count_append left upper deeper ∙ omega (arith, taken, kept) in
    greedy.filled level low ∙ ap (min 4) (sym total)
