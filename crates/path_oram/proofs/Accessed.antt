-- An access on slots, as the code makes it.
use Rattle.std.proofs.Common.{◌≡◌, ◌≢◌, ℕ, suc, ◌^◌, ◌<◌, List, [], ◌++◌, length, length-set, get_or, set, take, drop, All, sym, ap, ◌∙◌, subst, ⊎_elim, arith}
use Rattle.std.proofs.lemmas.Bool.{cases_eq, cases_lt}
use Rattle.std.proofs.lemmas.List.{get_or_past}
use Rattle.path_oram.specs.declared.bucket.Placed.{Placed}
use Rattle.path_oram.specs.Prelude.{GreedyPath, Places, held, index_on, on_path, WritesBack, AllHaveLeaves, HaveLeaves, IsNotBeside, blocks_in, places_of, tree_blocks, IsWhole}
use Rattle.path_oram.proofs.Found.{places_count, places_read}
use Rattle.path_oram.proofs.Poured.{poured_size}
use Rattle.path_oram.proofs.Slots.{count_buckets}
use Rattle.path_oram.proofs.Standing.{numbered}
use Rattle.path_oram.proofs.Written.{overwritten, path_bucket, whole_leaf, written_greedy, written_whole}

-- an empty bucket holds no block
none_in : (bucket : List ℕ) (block : ℕ) → bucket ≡ [] → All (λ other. other ≢ block) bucket
none_in bucket block none k d less = absurd (omega (arith, less, ap length none))

-- a block of a whole tree is in no bucket off its leaf's path
pub not_beside : (p : Places) (block shown : ℕ) → IsWhole p → shown ≡ get_or p.leaves block 0
    → IsNotBeside p.height shown p.tree block
not_beside p block shown whole is number off =
    ⊎_elim
    (λ zero_th. none_in (held p.tree number) block (ap (held p.tree) zero_th ∙ whole.unused))
    (λ other. ⊎_elim
    (λ within.
    let at = numbered p.height number (omega (arith, other)) (omega (arith, within, whole.buckets)) in
    λ k d less same.
    let b = get_or (held p.tree number) k d in
    let on : index_on p.height (get_or p.leaves b 0) at.level ≡ at.index =
    subst (All (λ n. index_on p.height (get_or p.leaves n 0) at.level ≡ at.index)) (ap (held p.tree) (sym at.is))
    (whole.placed at.level at.index at.within at.small) k d less in
    let met : at.index ≡ index_on p.height shown at.level =
    sym on ∙ ap (λ n. index_on p.height (get_or p.leaves n 0) at.level) same
    ∙ ap (λ l. index_on p.height l at.level) (sym is) in
    off at.level at.within (at.is ∙ path_bucket p.height shown at.level at.index met))
    (λ past. none_in (held p.tree number) block (get_or_past p.tree number [] past))
    (cases_lt number (length p.tree)))
    (cases_eq number 0)

-- the tree after an access
pub record Accessed (count height : ℕ) (before : Places) (block shown leaf : ℕ) (stash : List Placed)
    (tree : List (List Placed)) : Type 0 where
  pub whole : IsWhole (places_of count height stash tree)
  pub in_stash : HaveLeaves (places_of count height stash tree).leaves stash
  pub in_tree : AllHaveLeaves (places_of count height stash tree).leaves tree
  pub path : GreedyPath before block shown (places_of count height stash tree)
  pub leaves : (places_of count height stash tree).leaves ≡ set before.leaves block leaf

pub accessed :
    (count height : ℕ) (stash : List Placed) (tree : List (List Placed)) (q : Places) (block leaf shown n : ℕ)
    (before after : List (List Placed)) (kept : List Placed)
    → places_of count height stash tree ≡ q → IsWhole (places_of count height stash tree)
    → HaveLeaves (places_of count height stash tree).leaves stash
    → AllHaveLeaves (places_of count height stash tree).leaves tree
    → block < length q.leaves → leaf < 2 ^ q.height → shown ≡ get_or q.leaves block 0
    → n ≡ length tree → before ≡ tree
    → ((leaves : List ℕ) → block < length leaves → HaveLeaves leaves stash → AllHaveLeaves leaves before
    → WritesBack height (set leaves block leaf) shown (tree_blocks before) (tree_blocks after) (blocks_in stash)
    (blocks_in kept))
    → ((leaves : List ℕ) → block < length leaves → HaveLeaves leaves stash → AllHaveLeaves leaves before
    → IsNotBeside height shown (tree_blocks before) block
    → HaveLeaves (set leaves block leaf) kept × AllHaveLeaves (set leaves block leaf) after)
    → Accessed count height q block shown leaf kept (take n (after ++ drop (length after) tree))
accessed count height stash tree q block leaf shown n before after kept view whole have all exists new read size same by
    moved =
    let p = places_of count height stash tree in
    let there : block < length p.leaves = subst (λ r. block < length r.leaves) (sym view) exists in
    let fits : leaf < 2 ^ height = subst (λ r. leaf < 2 ^ r.height) (sym view) new in
    let is : shown ≡ get_or p.leaves block 0 = subst (λ r. shown ≡ get_or r.leaves block 0) (sym view) read in
    let small : shown < 2 ^ height = whole_leaf p block shown whole there is in
    let others = set p.leaves block leaf in
    let in_before : AllHaveLeaves p.leaves before = subst (AllHaveLeaves p.leaves) (sym same) all in
    let written : WritesBack height others shown (tree_blocks tree) (tree_blocks after) (blocks_in stash)
    (blocks_in kept) =
    subst (λ t. WritesBack height others shown (tree_blocks t) (tree_blocks after) (blocks_in stash) (blocks_in kept))
    same (by p.leaves there have in_before) in
    let right = moved p.leaves there have in_before
    (subst (λ t. IsNotBeside height shown (tree_blocks t) block) (sym same) (not_beside p block shown whole is)) in
    let long : length after ≡ length tree =
    sym (count_buckets after) ∙ written.size ∙ poured_size (on_path height shown) (tree_blocks tree) (suc height)
    ∙ count_buckets tree in
    let items : take n (after ++ drop (length after) tree) ≡ after = overwritten n after tree size long in
    let left : IsWhole (record { height = height; leaves = others; tree = tree_blocks after; stash = blocks_in kept }) =
    written_whole height p.leaves (tree_blocks tree) (blocks_in stash) block leaf shown (tree_blocks after)
    (blocks_in kept) whole there fits small is written in
    let greedy =
    written_greedy height p.leaves (tree_blocks tree) (blocks_in stash) block leaf shown (tree_blocks after)
    (blocks_in kept) whole.buckets small is written in
    let leaves_are : (places_of count height kept after).leaves ≡ others =
    places_read count height others kept after
    (length-set p.leaves block leaf ∙ places_count count height stash tree) left right.0 right.1 in
    let places_are : (l : List ℕ) → Places =
    λ l. record { height = height; leaves = l; tree = tree_blocks after; stash = blocks_in kept } in
    rw items (record {
      whole = subst (λ l. IsWhole (places_are l)) (sym leaves_are) left;
      in_stash = subst (λ l. HaveLeaves l kept) (sym leaves_are) right.0;
      in_tree = subst (λ l. AllHaveLeaves l after) (sym leaves_are) right.1;
      path = subst (λ r. GreedyPath r block shown (places_of count height kept after)) view
          (subst (λ l. GreedyPath p block shown (places_are l)) (sym leaves_are) greedy);
      leaves = leaves_are ∙ ap (λ r. set r.leaves block leaf) view;
    })
