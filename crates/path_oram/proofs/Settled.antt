-- The write-back, block by block.
use Rattle.std.proofs.Common.{◌≡◌, ℕ, suc, ◌+◌, ◌-◌, ◌^◌, ◌<◌, ◌≤◌, ◌≢◌, List, [], ◌∷◌, ◌++◌, length, get_or, set, take, true, false, refl, sym, ap, subst, ◌∙◌, arith, ⊎_elim, get_or-set_same, get_or-set_other, length-set, length-append}
use Rattle.std.specs.List.{All, swap_remove}
use Rattle.std.specs.List.Sorted.{IsPermutation}
use Rattle.std.proofs.lemmas.List.{append-nil, take_more, take-take, take-set}
use Rattle.std.proofs.lemmas.List.Elements.{All-push, All-set}
use Rattle.std.proofs.lemmas.List.Sorted.{IsPermutation-refl, IsPermutation-trans, IsPermutation-append_left, IsPermutation-append_right, IsPermutation-swap_remove}
use Rattle.std.proofs.lemmas.Bool.{cases_eq}
use Rattle.path_oram.specs.Prelude.{held, on_path, path_blocks, passes_bucket, all_blocks, HasRoom, NonePasses, IsDeepest, NoneFrom, IsSettled}
use Rattle.path_oram.proofs.PathNumbers.{path_differs, on_path_bound}
use Rattle.path_oram.proofs.Moves.{all_put, moved_behind}
use Rattle.path_oram.proofs.PathBlocks.{path_empty, path_put}

-- before the first block nothing is written back
pub settled_start : (height : ℕ) (leaves : List ℕ) (leaf : ℕ) (empty : List (List ℕ)) (old : List ℕ)
    → ((level : ℕ) → level ≤ height → held empty (on_path height leaf level) ≡ [])
    → All (λ bucket. length bucket ≤ 4) empty → IsSettled height leaves leaf empty empty old old 0
settled_start height leaves leaf empty old none most =
    let nothing : path_blocks (on_path height leaf) empty (suc height) ≡ [] = path_empty (on_path height leaf) empty
    (suc height) (λ level less. none level (omega arith)) in
    record {
      size = refl;
      off = λ number off. refl;
      all = IsPermutation-refl (all_blocks old empty);
      hand = rw (nothing, append-nil) (IsPermutation-refl old);
      eligible = λ level within. rw (none level within) (λ k d below. absurd (omega arith));
      most = most;
      stayed = λ level within room k d below. absurd (omega arith);
      above = λ level higher within less room. rw (none higher (omega arith)) (λ k d below. absurd (omega arith));
    }

-- a block for which there is no room stays in the stash
pub settled_kept :
    (height : ℕ) (leaves : List ℕ) (leaf : ℕ) (empty tree : List (List ℕ)) (old stash : List ℕ) (kept block : ℕ)
    → IsSettled height leaves leaf empty tree old stash kept → kept < length stash → block ≡ get_or stash kept block
    → NoneFrom height (get_or leaves block 0) leaf tree 0
    → IsSettled height leaves leaf empty tree old stash (kept + 1)
settled_kept height leaves leaf empty tree old stash kept block so_far within read none =
    let more : take (kept + 1) stash ≡ take kept stash ++ block ∷ [] = take_more stash kept block within
    ∙ ap (λ b. take kept stash ++ b ∷ []) (sym read) in
    record {
      size = so_far.size;
      off = so_far.off;
      all = so_far.all;
      hand = so_far.hand;
      eligible = so_far.eligible;
      most = so_far.most;
      stayed = λ level low room.
          rw more (All-push (λ b. passes_bucket height leaves leaf level b ≡ false) (take kept stash) block
          (so_far.stayed level low room) (none level (omega arith) low room));
      above = so_far.above;
    }

-- the items before the place at which an item was removed
pub taken_before : (xs : List ℕ) (i x : ℕ) → i < length xs → take i (swap_remove xs i x) ≡ take i xs
taken_before xs i x within =
    take-take i (length xs - 1) (set xs i (get_or xs (length xs - 1) x)) (omega arith)
    ∙ take-set xs i (get_or xs (length xs - 1) x)

-- a block goes to the deepest level that has room and where it is allowed
pub settled_put :
    (height : ℕ) (leaves : List ℕ) (leaf : ℕ) (empty tree : List (List ℕ)) (old stash : List ℕ) (kept block m : ℕ)
    → leaf < 2 ^ height → length tree ≡ 2 ^ suc height
    → IsSettled height leaves leaf empty tree old stash kept → kept < length stash → block ≡ get_or stash kept block
    → IsDeepest height (get_or leaves block 0) leaf tree m
    → IsSettled height leaves leaf empty
    (set tree (on_path height leaf m) (held tree (on_path height leaf m) ++ block ∷ [])) old
    (swap_remove stash kept block) kept
settled_put height leaves leaf empty tree old stash kept block m small wide so_far within read deepest =
    let path = on_path height leaf in
    let bucket = held tree (path m) ++ block ∷ [] in
    let after = set tree (path m) bucket in
    let rest = swap_remove stash kept block in
    let inside : path m < length tree = omega (arith, on_path_bound height leaf m deepest.within small) in
    let taken : IsPermutation stash (block ∷ rest) = IsPermutation-swap_remove stash kept block within read in
    let differ : (level : ℕ) → level ≤ height → level ≢ m → path level ≢ path m = λ level low. path_differs height leaf
    level m low deepest.within small in
    let here : held after (path m) ≡ bucket = get_or-set_same tree (path m) bucket [] inside in
    let there : (level : ℕ) → level ≤ height → level ≢ m → held after (path level) ≡ held tree (path level) =
    λ level low other. get_or-set_other tree (path m) (path level) bucket [] (differ level low other) in
    let had : (level : ℕ) → level ≤ height → HasRoom height leaf after level → HasRoom height leaf tree level =
    λ level low room. ⊎_elim
    (λ same. subst (λ k. HasRoom height leaf tree k) (sym same) deepest.room)
    (λ other. subst (λ b. length b < 4) (there level low other) room)
    (cases_eq level m) in
    record {
      size = length-set tree (path m) bucket ∙ so_far.size;
      off = λ number off. get_or-set_other tree (path m) number bucket [] (off m deepest.within)
          ∙ so_far.off number off;
      all =
          IsPermutation-trans (all_blocks old empty) (all_blocks stash tree) (all_blocks rest after) so_far.all
          (all_put block stash rest tree (path m) inside taken);
      hand =
          let blocks = path_blocks path tree (suc height) in
          IsPermutation-trans old (stash ++ blocks) (rest ++ path_blocks path after (suc height)) so_far.hand
          (IsPermutation-trans (stash ++ blocks) (block ∷ (rest ++ blocks))
          (rest ++ path_blocks path after (suc height))
          (IsPermutation-append_left blocks stash (block ∷ rest) taken)
          (IsPermutation-trans (block ∷ (rest ++ blocks)) (rest ++ block ∷ blocks)
          (rest ++ path_blocks path after (suc height))
          (moved_behind block rest blocks)
          (IsPermutation-append_right rest (block ∷ blocks) (path_blocks path after (suc height))
          (path_put block path tree (suc height) m (omega (arith, deepest.within)) inside
          (λ level less. differ level (omega arith))))));
      eligible = λ level low. ⊎_elim
          (λ same.
          subst (λ k. All (λ b. passes_bucket height leaves leaf k b ≡ true) (held after (path k))) (sym same)
          (rw here (All-push (λ b. passes_bucket height leaves leaf m b ≡ true) (held tree (path m)) block
          (so_far.eligible m deepest.within) deepest.meets)))
          (λ other. rw (there level low other) (so_far.eligible level low))
          (cases_eq level m);
      most = All-set (λ b. length b ≤ 4) tree (path m) bucket
          (omega (arith, length-append (held tree (path m)) (block ∷ []), deepest.room)) so_far.most;
      stayed = λ level low room. rw (taken_before stash kept block within)
          (so_far.stayed level low (had level low room));
      above = λ level higher low less room. ⊎_elim
          (λ same.
          let lower : m < level = omega arith in
          let open_room : HasRoom height leaf tree level = had level low room in
          subst (λ k. NonePasses height leaves leaf level (held after (path k))) (sym same)
          (rw here (All-push (λ b. passes_bucket height leaves leaf level b ≡ false) (held tree (path m)) block
          (so_far.above level m low lower open_room) (deepest.deepest level lower low open_room))))
          (λ other. rw (there higher (omega arith) other) (so_far.above level higher low less (had level low room)))
          (cases_eq higher m);
    }
