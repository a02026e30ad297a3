-- There always is a greedy write-back, so each run ends in some places, and each block is on a level there. And there
-- is a height for each number of blocks.
use Rattle.std.proofs.Common.{◌≡◌, ◌≢◌, ◌⊎◌, inl, inr, ℕ, zero, suc, ◌+◌, ◌<◌, ◌≤◌, ◌^◌, Bool, true, false, List, [], ◌∷◌, ◌++◌, length, map, take, drop, get_or, set, Option, Some, None, refl, sym, ◌∙◌, subst, ⊎_elim, arith, append_assoc, length-append, length-set}
use Rattle.std.specs.Prelude.{Contains}
use Rattle.std.specs.List.{All, swap_remove}
use Rattle.std.proofs.lemmas.Bool.{cases_eq, cases_lt}
use Rattle.std.proofs.lemmas.List.{get_or_default, length-drop, length-map, length-take-le}
use Rattle.std.proofs.lemmas.List.Elements.{All-map}
use Rattle.std.proofs.lemmas.List.Sorted.{IsPermutation-swap_remove, length_permutation}
use Rattle.std.proofs.lemmas.Nat.{pow_pos}
use Rattle.std.proofs.Math.ListN.{get_or-append}
use Rattle.std.proofs.Math.Nat.{mod-lt, pow-suc}
use Rattle.std.proofs.Math.Seq.{get_or-append_seam}
use Rattle.rand_core.specs.Stream.{Stream}
use Rattle.path_oram.specs.Prelude.{Places, held, on_path, passes_bucket, path_blocks, Moves, MovesBy, Stays, Then, poured, ComesBy, AreLevels, Settles, StandsOn, places_from, HasRoom, IsDeepest, IsSettled, NoneFrom, IsHeightFor, IsWhole, first_words, leaf_of, words_left}
use Rattle.path_oram.proofs.Ahead.{length-first_words}
use Rattle.path_oram.proofs.Beginning.{first_whole}
use Rattle.path_oram.proofs.PathNumbers.{path_within}
use Rattle.path_oram.proofs.Poured.{poured_most, poured_on, poured_size}
use Rattle.path_oram.proofs.Settled.{settled_start, settled_kept, settled_put}
use Rattle.path_oram.proofs.Standing.{in_stash, one_level_more}
use Rattle.path_oram.proofs.Written.{whole_leaf, written_greedy, written_whole}

-- ---- one write-back

module _ (height : ℕ) (leaves : List ℕ) (leaf : ℕ) (tree : List (List ℕ)) (block : ℕ) where
  abbrev Found : Type 0
  Found =
      ((level : ℕ) × IsDeepest height (get_or leaves block 0) leaf tree level)
      ⊎ NoneFrom height (get_or leaves block 0) leaf tree 0

  one_lower : (level : ℕ) → NoneFrom height (get_or leaves block 0) leaf tree (suc level)
      → (HasRoom height leaf tree level → passes_bucket height leaves leaf level block ≡ false)
      → NoneFrom height (get_or leaves block 0) leaf tree level
  one_lower level none here l from low room =
      ⊎_elim
      (λ same. subst (λ k. passes_bucket height leaves leaf k block ≡ false) (sym same)
      (here (subst (HasRoom height leaf tree) same room)))
      (λ other. none l (omega (arith, from, other)) low room)
      (cases_eq l level)

  on_level : (level : ℕ) → level ≤ height → NoneFrom height (get_or leaves block 0) leaf tree (suc level)
      → (NoneFrom height (get_or leaves block 0) leaf tree level → Found)
      → (may : Bool) → passes_bucket height leaves leaf level block ≡ may
      → (HasRoom height leaf tree level ⊎ (HasRoom height leaf tree level → ⊥)) → Found
  on_level level low none rest false is room = rest (one_lower level none (λ has. is))
  on_level level low none rest true is room =
      ⊎_elim
      (λ has. inl (
        level,
        record {
          within = low;
          room = has;
          meets = is;
          deepest = λ deeper less within free. none deeper less within free;
        },
      ))
      (λ full. rest (one_lower level none (λ has. absurd (full has))))
      room

  room_or_not : (level : ℕ) → HasRoom height leaf tree level ⊎ (HasRoom height leaf tree level → ⊥)
  room_or_not level =
      ⊎_elim
      (λ less. inl less)
      (λ full. inr (λ less. omega (arith, less, full)))
      (cases_lt (length (held tree (on_path height leaf level))) 4)

  -- the deepest level that has room and where the block is allowed, if there is one
  deepest_below : (above : ℕ) → above ≤ height + 1 → NoneFrom height (get_or leaves block 0) leaf tree above → Found
  deepest_below zero within none = inr none
  deepest_below (suc level) within none =
      on_level level (omega arith) none (deepest_below level (omega arith))
      (passes_bucket height leaves leaf level block) refl (room_or_not level)

-- all blocks of the hand were tried
record Done (height : ℕ) (leaves : List ℕ) (leaf : ℕ) (empty : List (List ℕ)) (old : List ℕ) : Type 0 where
  pub tree : List (List ℕ)
  pub stash : List ℕ
  pub is : IsSettled height leaves leaf empty tree old stash (length stash)

module _ (height : ℕ) (leaves : List ℕ) (leaf : ℕ) (small : leaf < 2 ^ height) (empty : List (List ℕ))
    (wide : length empty ≡ 2 ^ suc height) (old : List ℕ) where
  settle_rest : (left : ℕ) (tree : List (List ℕ)) (stash : List ℕ) (kept : ℕ) → length stash ≡ kept + left
      → IsSettled height leaves leaf empty tree old stash kept → Done height leaves leaf empty old
  settle_rest zero tree stash kept all so_far = record {
    tree = tree;
    stash = stash;
    is = subst (IsSettled height leaves leaf empty tree old stash) (omega (arith, all)) so_far;
  }
  settle_rest (suc left) tree stash kept all so_far =
      let block = get_or stash kept 0 in
      let within : kept < length stash = omega (arith, all) in
      let read : block ≡ get_or stash kept block = get_or_default stash kept 0 block within in
      let rest = swap_remove stash kept block in
      ⊎_elim
      (λ found.
      let one : length stash ≡ suc (length rest) =
      sym (length_permutation stash (block ∷ rest) (IsPermutation-swap_remove stash kept block within read)) in
      settle_rest left _ rest kept (omega (arith, all, one))
      (settled_put height leaves leaf empty tree old stash kept block found.0 small
      (so_far.size ∙ wide) so_far within read found.1))
      (λ none.
      settle_rest left tree stash (kept + 1) (omega (arith, all))
      (settled_kept height leaves leaf empty tree old stash kept block so_far within read none))
      (deepest_below height leaves leaf tree block (height + 1) (omega arith)
      (λ level from low room. absurd (omega (arith, from, low))))

-- places to which an access to a block with a word may lead
pub record Led (p : Places) (block word : ℕ) : Type 0 where
  pub after : Places
  pub by : MovesBy p block word after
  pub whole : IsWhole after
  pub same_height : after.height ≡ p.height
  pub same_count : length after.leaves ≡ length p.leaves

pub led : (p : Places) (block word : ℕ) → IsWhole p → block < length p.leaves → Led p block word
led p block word whole exists =
    let shown = get_or p.leaves block 0 in
    let leaf = leaf_of p.height word in
    let path = on_path p.height shown in
    let others = set p.leaves block leaf in
    let empty = poured path p.tree (suc p.height) in
    let old = p.stash ++ path_blocks path p.tree (suc p.height) in
    let small : shown < 2 ^ p.height = whole_leaf p block shown whole exists refl in
    let new : leaf < 2 ^ p.height = mod-lt word (pow_pos p.height) in
    let wide : length empty ≡ 2 ^ suc p.height = poured_size path p.tree (suc p.height) ∙ whole.buckets in
    let done = settle_rest p.height others shown small empty wide old (length old) empty old 0 (omega arith)
    (settled_start p.height others shown empty old
    (λ level low. poured_on path p.tree (suc p.height) level (omega (arith, low))
    (path_within p.height shown (suc p.height) _ small whole.buckets (omega arith)))
    (poured_most path p.tree (suc p.height) whole.room)) in
    record {
      after = record { height = p.height; leaves = others; tree = done.tree; stash = done.stash };
      by = record {
        path = written_greedy p.height p.leaves p.tree p.stash block leaf shown done.tree done.stash
            whole.buckets small refl done.is;
        leaves = refl;
      };
      whole = written_whole p.height p.leaves p.tree p.stash block leaf shown done.tree done.stash whole
          exists new small refl done.is;
      same_height = refl;
      same_count = length-set p.leaves block leaf;
    }

-- ---- a run

pub record RanOn (p : Places) (blocks words : List ℕ) : Type 0 where
  pub after : Places
  pub moves : Moves p blocks words after
  pub whole : IsWhole after
  pub same_count : length after.leaves ≡ length p.leaves

pub ran_on : (blocks words : List ℕ) (p : Places)
    → IsWhole p → All (λ block. block < length p.leaves) blocks → length words ≡ length blocks → RanOn p blocks words
ran_on [] [] p whole exist same = record { after = p; moves = Stays p; whole = whole; same_count = refl }
ran_on [] (word ∷ words) p whole exist same = absurd (omega (arith, same))
ran_on (block ∷ blocks) [] p whole exist same = absurd (omega (arith, same))
ran_on (block ∷ blocks) (word ∷ words) p whole exist same =
    let one = led p block word whole (exist 0 0 (omega arith)) in
    let rest = ran_on blocks words one.after one.whole
    (λ k d less. subst (λ n. get_or blocks k d < n) (sym one.same_count) (exist (suc k) d (omega (arith, less))))
    (omega (arith, same)) in
    record {
      after = rest.after;
      moves = Then p block word one.after blocks words rest.after one.by rest.moves;
      whole = rest.whole;
      same_count = rest.same_count ∙ one.same_count;
    }

-- ---- levels

-- a list holds a number or doesn't
there_or_not : (xs : List ℕ) (x : ℕ) → Contains xs x ⊎ (Contains xs x → ⊥)
there_or_not [] x = inr (λ there. absurd (omega (arith, there.1)))
there_or_not (y ∷ ys) x =
    ⊎_elim
    (λ same. inl (0, omega arith, same))
    (λ other. ⊎_elim
    (λ there. inl (suc there.0, omega (arith, there.1), there.2))
    (λ none. inr (λ there. nowhere other none there.0 there.1 there.2))
    (there_or_not ys x))
    (cases_eq y x)
  where
    nowhere : y ≢ x → (Contains ys x → ⊥) → (k : ℕ) → k < length (y ∷ ys) → get_or (y ∷ ys) k x ≡ x → ⊥
    nowhere other none zero less is = other is
    nowhere other none (suc k) less is = none (k, omega (arith, less), is)

abbrev IsOnPath : Places → ℕ → ℕ → Type 0
IsOnPath p block level = Contains (held p.tree (on_path p.height (get_or p.leaves block 0) level)) block

found_below : (p : Places) (block n : ℕ)
    → ((level : ℕ) × (level < n) × IsOnPath p block level) ⊎ ((level : ℕ) → level < n → IsOnPath p block level → ⊥)
found_below p block zero = inr (λ level less there. omega (arith, less))
found_below p block (suc n) =
    ⊎_elim
    (λ found. inl (found.0, omega (arith, found.1), found.2))
    (λ none. ⊎_elim
    (λ there. inl (n, omega arith, there))
    (λ not. inr (λ level less there. one_level_more (λ l. held p.tree (on_path p.height (get_or p.leaves block 0) l))
    block n none not level (omega (arith, less)) there))
    (there_or_not (held p.tree (on_path p.height (get_or p.leaves block 0) n)) block))
    (found_below p block n)

-- each block is on a level, or in the stash
pub level_exists : (p : Places)
    → IsWhole p → (block : ℕ) → block < length p.leaves → (level : Option ℕ) × StandsOn p block level
level_exists p whole block exists =
    ⊎_elim
    (λ found. (Some found.0, (omega (arith, found.1), found.2)))
    (λ none. (None, in_stash p whole block exists none))
    (found_below p block (p.height + 1))

-- the levels of the first blocks, and of one more block
abbrev pub FirstLevels : Places → List (Option ℕ) → Type 0
FirstLevels p levels = (block : ℕ) → block < length levels → StandsOn p block (get_or levels block None)

-- the level of one more block
pub one_level : (p : Places) (levels : List (Option ℕ)) (level : Option ℕ)
    → FirstLevels p levels → StandsOn p (length levels) level → FirstLevels p (levels ++ level ∷ [])
one_level p levels level first stands block less =
    ⊎_elim
    (λ early. subst (StandsOn p block) (sym (get_or-append levels (level ∷ []) None block early)) (first block early))
    (λ late.
    let last : block ≡ length levels = omega (arith, less, late, length-append levels (level ∷ [])) in
    subst (λ b. StandsOn p b (get_or (levels ++ level ∷ []) b None)) (sym last)
    (subst (StandsOn p (length levels)) (sym (get_or-append_seam levels level [] None)) stands))
    (cases_lt block (length levels))

-- the levels of the first blocks, extended to those of all
pub record AllLevels (p : Places) (first : List (Option ℕ)) : Type 0 where
  pub more : List (Option ℕ)
  pub are : AreLevels p (first ++ more)

-- all blocks are on a level, or in the stash
pub all_levels : (left : ℕ) (p : Places) → IsWhole p → (first : List (Option ℕ)) → length first + left ≡ length p.leaves
    → FirstLevels p first → AllLevels p first
all_levels zero p whole first all stand = record {
  more = [];
  are = record {
    count = omega (arith, all, length-append first []);
    each =
        λ block exists. subst (StandsOn p block) (sym (get_or-append first [] None block (omega (arith, all, exists))))
        (stand block (omega (arith, all, exists)));
  };
}
all_levels (suc left) p whole first all stand =
    let next = level_exists p whole (length first) (omega (arith, all)) in
    let rest =
    all_levels left p whole (first ++ next.0 ∷ []) (omega (arith, all, length-append first (next.0 ∷ [])))
    (one_level p first next.0 stand next.1) in
    record {
      more = next.0 ∷ rest.more;
      are = subst (AreLevels p) (append_assoc first (next.0 ∷ []) rest.more) rest.are;
    }

-- ---- a bank

-- places to which accesses to these blocks may lead a bank, and the levels there
pub record EndsSomehow (p : Places) (words : Stream) (blocks : List ℕ) : Type 0 where
  pub after : Places
  pub left : Stream
  pub come : ComesBy p words blocks after left
  pub levels : List (Option ℕ)
  pub are : AreLevels after levels

-- any accesses to existing blocks lead to some places
pub ends_somehow : (p : Places) (words : Stream) (blocks : List ℕ)
    → IsWhole p → All (λ block. block < length p.leaves) blocks → EndsSomehow p words blocks
ends_somehow p words blocks whole exist =
    let ran =
    ran_on blocks (first_words (length blocks) words) p whole exist (length-first_words (length blocks) words) in
    let levels =
    all_levels (length ran.after.leaves) ran.after ran.whole [] (omega arith)
    (λ block less. absurd (omega (arith, less))) in
    record {
      after = ran.after;
      left = words_left (length blocks) words;
      come = record { moves = ran.moves; drawn = refl };
      levels = levels.more;
      are = levels.are;
    }

-- ---- the height of a tree

below_power : (n : ℕ) → n ≤ 2 ^ n
below_power zero = omega arith
below_power (suc n) = omega (arith, below_power n, pow-suc 2 n, pow_pos n)

module _ (count : ℕ) where
  -- no height below this one is enough
  abbrev IsLow : ℕ → Type 0
  IsLow height = (less : ℕ) → count ≤ 2 ^ less → height ≤ less

  one_higher : (height : ℕ) → 2 ^ height < count → IsLow height → IsLow (suc height)
  one_higher height few low less enough =
      ⊎_elim
      (λ same. absurd (let here : count ≤ 2 ^ height = subst (λ n. count ≤ 2 ^ n) same enough in omega (arith, here, few)))
      (λ other. omega (arith, low less enough, other))
      (cases_eq less height)

  height_from : (left height : ℕ) → count ≤ 2 ^ (height + left) → IsLow height → (least : ℕ) × IsHeightFor count least
  height_from zero height enough low =
      let none : height + 0 ≡ height = omega arith in
      (height, record { enough = subst (λ n. count ≤ 2 ^ n) none enough; least = low })
  height_from (suc left) height enough low =
      let next : height + suc left ≡ suc height + left = omega arith in
      ⊎_elim
      (λ few.
      height_from left (suc height) (subst (λ n. count ≤ 2 ^ n) next enough) (one_higher height few low))
      (λ holds. (height, record { enough = holds; least = low }))
      (cases_lt (2 ^ height) count)

  -- the least height of a tree that has a leaf for each of this many blocks
  pub some_height : (least : ℕ) × IsHeightFor count least
  some_height =
      let from : count ≡ 0 + count = omega arith in
      height_from count 0 (subst (λ n. count ≤ 2 ^ n) from (below_power count)) (λ less enough. omega arith)

-- ---- a bank from the start on

-- there are levels that the blocks may have after any accesses to existing blocks
pub settles_somehow : (count height : ℕ) (blocks words : List ℕ) → IsHeightFor count height
    → All (λ block. block < count) blocks → length words ≡ count + length blocks
    → (levels : List (Option ℕ)) × Settles count height blocks words levels
settles_somehow count height blocks words tall exist enough =
    let first = take count words in
    let leaves = map (leaf_of height) first in
    let many : length leaves ≡ count =
    length-map first (leaf_of height) ∙ length-take-le count words (omega (arith, enough)) in
    let whole : IsWhole (places_from count height words) =
    first_whole height leaves (subst (λ n. IsHeightFor n height) (sym many) tall)
    (All-map (λ leaf. leaf < 2 ^ height) (leaf_of height) first (λ k d within. mod-lt _ (pow_pos height))) in
    let ran =
    ran_on blocks (drop count words) (places_from count height words) whole
    (subst (λ n. All (λ block. block < n) blocks) (sym many) exist)
    (omega (arith, length-drop count words, enough)) in
    let levels =
    all_levels (length ran.after.leaves) ran.after ran.whole [] (omega arith)
    (λ block less. absurd (omega (arith, less))) in
    (levels.more, record { places = ran.after; moves = ran.moves; stand = levels.are })
