-- An access is the greedy write-back, and each block is stored once afterwards, as before.
use Rattle.std.proofs.Common.{◌≡◌, ℕ, suc, ◌+◌, ◌^◌, ◌<◌, ◌≤◌, ◌≢◌, min, List, [], ◌++◌, length, get_or, set, take, drop, false, refl, sym, ap, subst, ◌∙◌, arith, ⊎_elim, get_or-set_other, length-set, length-append}
use Rattle.std.specs.List.{count_by, range_with_len}
use Rattle.std.proofs.lemmas.List.{take_all, drop_all, append-nil}
use Rattle.std.proofs.lemmas.List.Elements.{All-set}
use Rattle.std.proofs.lemmas.List.Sorted.{IsPermutation-trans, length_permutation}
use Rattle.std.proofs.lemmas.Bool.{cases_eq, cases_lt, eqb-true}
use Rattle.std.proofs.lemmas.Nat.{pow_pos}
use Rattle.std.proofs.lemmas.List.FromFn.{length-range_with_len}
use Rattle.path_oram.specs.Prelude.{Places, held, index_on, on_path, bucket_number, path_blocks, passes_bucket, all_blocks, GreedyPath, IsOff, IsWhole, poured, NonePasses, WritesBack}
use Rattle.path_oram.proofs.PathNumbers.{index_on_bound, on_path_bound, path_within, path_apart, level_of, index_of}
use Rattle.std.proofs.Math.Pow.{pow_mono}
use Rattle.path_oram.proofs.Moves.{everything}
use Rattle.path_oram.proofs.PathBlocks.{path_all}
use Rattle.path_oram.proofs.Poured.{poured_off, poured_size, poured_all}
use Rattle.path_oram.proofs.Counted.{count_none, count_all, count_append}

-- either blocks that no deeper bucket took fill a bucket, or all of them are in it
pub filled_up :
    (height : ℕ) (leaves : List ℕ) (shown : ℕ) (before after : List (List ℕ)) (old stash : List ℕ) (level : ℕ)
    → shown < 2 ^ height → length after ≡ 2 ^ suc height
    → WritesBack height leaves shown before after old stash → level ≤ height
    → length (held after (on_path height shown level))
    ≡ min 4 (count_by (passes_bucket height leaves shown level)
    (stash ++ path_blocks (on_path height shown) after (suc level)))
filled_up height leaves shown before after old stash level small wide written low =
    let path = on_path height shown in
    let bucket = held after (path level) in
    let shallower = path_blocks path after level in
    let may = passes_bucket height leaves shown level in
    let parts : count_by may (stash ++ (shallower ++ bucket)) ≡ count_by may stash +
    (count_by may shallower + length bucket) =
    count_append may stash (shallower ++ bucket)
    ∙ ap (λ n. count_by may stash + n)
    (count_append may shallower bucket
    ∙ ap (λ n. count_by may shallower + n) (count_all may bucket (written.eligible level low))) in
    let most : length bucket ≤ 4 = written.most (path level) []
    (omega (arith, wide, on_path_bound height shown level low small)) in
    ⊎_elim
    (λ room.
    let stays : NonePasses height leaves shown level stash =
    subst (NonePasses height leaves shown level) (take_all (length stash) stash (omega arith))
    (written.stayed level low room) in
    let above : NonePasses height leaves shown level shallower =
    path_all (λ b. may b ≡ false) path after level (λ higher less. written.above level higher low less room) in
    omega (arith, parts, count_none may stash stays, count_none may shallower above))
    (λ full. omega (arith, parts, most))
    (cases_lt (length bucket) 4)

-- a path that is written back greedily
pub written_greedy :
    (height : ℕ) (leaves : List ℕ) (tree : List (List ℕ)) (stash : List ℕ) (block leaf shown : ℕ)
    (after : List (List ℕ)) (kept : List ℕ)
    → length tree ≡ 2 ^ suc height → shown < 2 ^ height → shown ≡ get_or leaves block 0
    → WritesBack height (set leaves block leaf) shown tree after stash kept
    → GreedyPath
    (record { height = height; leaves = leaves; tree = tree; stash = stash }) block shown
    (record { height = height; leaves = set leaves block leaf; tree = after; stash = kept })
written_greedy height leaves tree stash block leaf shown after kept wide small is written =
    let path = on_path height shown in
    record {
      leaf = is;
      height = refl;
      off = λ number off. written.off number off
          ∙ poured_off path tree (suc height) number (λ level less. off level (omega arith));
      same = written.hand;
      eligible = written.eligible;
      filled = λ level low.
          filled_up height (set leaves block leaf) shown tree after stash kept level small
          (written.size ∙ poured_size path tree (suc height) ∙ wide) written low;
    }

-- a bucket off the path
pub beside : (height shown level index : ℕ) → shown < 2 ^ height → level ≤ height → index < 2 ^ level
    → index ≢ index_on height shown level → IsOff height shown (bucket_number level index)
unfolding on_path
beside height shown level index small low less other l within same =
    let bound = index_on_bound height shown l within small in
    let levels : level ≡ l = level_of level index l (index_on height shown l) less bound same in
    other (index_of level index l (index_on height shown l) less bound same ∙ ap (index_on height shown) (sym levels))

pub no_path_zero : (height shown : ℕ) → IsOff height shown 0
unfolding on_path
no_path_zero height shown level within same = absurd (omega (arith, pow_pos level, same))

-- the bucket of a path on a level
pub path_bucket : (height shown level index : ℕ) → index ≡ index_on height shown level
    → bucket_number level index ≡ on_path height shown level
unfolding on_path
path_bucket height shown level index is = ap (bucket_number level) is

-- writing back keeps each block once, on its path
pub written_whole :
    (height : ℕ) (leaves : List ℕ) (tree : List (List ℕ)) (stash : List ℕ) (block leaf shown : ℕ)
    (after : List (List ℕ)) (kept : List ℕ)
    → IsWhole (record { height = height; leaves = leaves; tree = tree; stash = stash })
    → block < length leaves → leaf < 2 ^ height → shown < 2 ^ height → shown ≡ get_or leaves block 0
    → WritesBack height (set leaves block leaf) shown tree after stash kept
    → IsWhole (record { height = height; leaves = set leaves block leaf; tree = after; stash = kept })
written_whole height leaves tree stash block leaf shown after kept whole exists new small is written =
    let path = on_path height shown in
    let others = set leaves block leaf in
    let empty = poured path tree (suc height) in
    let old = stash ++ path_blocks path tree (suc height) in
    let long : length others ≡ length leaves = length-set leaves block leaf in
    let kept_off : (number : ℕ) → IsOff height shown number → held after number ≡ held tree number =
    λ number off. written.off number off
    ∙ poured_off path tree (suc height) number (λ level less. off level (omega arith)) in
    record {
      height = rw long whole.height;
      leaves = All-set (λ l. l < 2 ^ height) leaves block leaf new whole.leaves;
      buckets = written.size ∙ poured_size path tree (suc height) ∙ whole.buckets;
      unused = kept_off 0 (no_path_zero height shown) ∙ whole.unused;
      room = written.most;
      once = rw long
          (IsPermutation-trans (range_with_len 0 (length leaves)) (all_blocks stash tree)
          (all_blocks kept after) whole.once
          (IsPermutation-trans (all_blocks stash tree) (all_blocks old empty) (all_blocks kept after)
          (poured_all path stash tree (suc height)
          (path_within height shown (suc height) _ small whole.buckets (omega arith))
          (path_apart height shown (suc height) small (omega arith))) written.all));
      placed = λ level index low less. ⊎_elim
          (λ same. rw (path_bucket height shown level index same)
          (λ k d below. eqb-true _ _ (written.eligible level low k d below) ∙ sym same))
          (λ other.
          rw (kept_off (bucket_number level index) (beside height shown level index small low less other))
          (λ k d below.
          let b = get_or (held tree (bucket_number level index)) k d in
          let before : index_on height
          (get_or leaves b 0) level ≡ index = whole.placed level index low less k d below in
          let differs : b ≢ block = λ e. other
          (sym before ∙ ap (λ l. index_on height l level) (ap (λ n. get_or leaves n 0) e ∙ sym is)) in
          ap (λ l. index_on height l level) (get_or-set_other leaves block b leaf 0 differs) ∙ before))
          (cases_eq index (index_on height shown level));
    }

-- the tree and the stash have as many blocks as there are leaves
pub whole_length : (p : Places) → IsWhole p → length (all_blocks p.stash p.tree) ≡ length p.leaves
whole_length p whole =
    length_permutation (range_with_len 0 (length p.leaves)) (all_blocks p.stash p.tree) whole.once
    ∙ length-range_with_len 0 (length p.leaves)

-- the stash has at most as many blocks as there are leaves
pub whole_stash : (p : Places) → IsWhole p → length p.stash ≤ length p.leaves
whole_stash p whole = omega (arith, whole_length p whole, length-append p.stash (everything p.tree))

-- a block's leaf is a leaf of the tree
pub whole_leaf : (p : Places) (block shown : ℕ) → IsWhole p → block < length p.leaves → shown ≡ get_or p.leaves block 0
    → shown < 2 ^ p.height
whole_leaf p block shown whole within is = subst (λ n. n < 2 ^ p.height) (sym is) (whole.leaves block 0 within)

-- a tree of height 12 or less has at most 4096 blocks
pub whole_small : (p : Places) → IsWhole p → p.height ≤ 12 → length p.leaves ≤ 4096
whole_small p whole low = omega (arith, whole.height.enough, pow_mono {i = p.height} {j = 12} low)

-- a list that was overwritten entirely
pub overwritten : {X : Type 0} (n : ℕ) (new old : List X) → n ≡ length old → length new ≡ length old
    → take n (new ++ drop (length new) old) ≡ new
overwritten n new old size same =
    let none : drop (length new) old ≡ [] = drop_all (length new) old (omega arith) in
    rw (none, append-nil) (take_all n new (omega arith))
