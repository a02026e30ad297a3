-- What an access shows and leaves, tree by tree.
use Rattle.std.proofs.Common.{◌≡◌, ℕ, suc, ◌+◌, ◌-◌, ◌<◌, List, [], ◌∷◌, ◌++◌, length, replicate, get_or, set, refl, sym, ap, ap₂, ◌∙◌, arith, append_assoc, length-append}
use Rattle.std.proofs.lemmas.List.{length-map}
use Rattle.rand_core.specs.Stream.{Stream}
use Rattle.banks.specs.declared.bank.Leaves.{Leaves}
use Rattle.banks.specs.Prelude.{listed_leaves}
use Rattle.path_oram.specs.Prelude.{BlockTree, leaf_of, word_at, words_left}
use Rattle.recursive_oram.specs.Prelude.{Level, block_above, leaves_now, tree_level, levels_after, shown_ahead, LeadsEach, levels_of}

-- an item in the middle of a list
set-seam : (front back : List ℕ) (old new : ℕ)
    → set (front ++ old ∷ back) (length front) new ≡ front ++ new ∷ back
set-seam [] back old new = refl
set-seam (x ∷ front) back old new = ap (λ l. x ∷ l) (set-seam front back old new)

-- one leaf more in a list of leaves
listed-more : (leaves : List ℕ) (leaf : ℕ) → length leaves < 6
    → set (leaves ++ replicate (6 - length leaves) 0) (length leaves) leaf
    ≡ (leaves ++ leaf ∷ []) ++ replicate (6 - length (leaves ++ leaf ∷ [])) 0
listed-more leaves leaf room =
    let rest = 5 - length leaves in
    let more : 6 - length leaves ≡ suc rest = omega arith in
    let left : rest ≡ 6 - length (leaves ++ leaf ∷ []) = omega (arith, length-append leaves (leaf ∷ [])) in
    ap (λ n. set (leaves ++ replicate n 0) (length leaves) leaf) more
    ∙ (set-seam leaves (replicate rest 0) 0 leaf
    ∙ (sym (append_assoc leaves (leaf ∷ []) (replicate rest 0))
    ∙ ap (λ n. (leaves ++ leaf ∷ []) ++ replicate n 0) left))

pub with-listed : (shown result : Leaves) (leaf : ℕ) → shown.len < 6 → result.len ≡ shown.len + 1
    → result.at ≡ set shown.at shown.len leaf → (leaves : List ℕ) → shown ≡ listed_leaves leaves
    → result ≡ listed_leaves (leaves ++ leaf ∷ [])
with-listed shown result leaf room len at leaves is =
    let count : shown.len ≡ length leaves = ap (λ l. l.len) is in
    let few : length leaves < 6 = omega (arith, room, count) in
    let longer : result.len ≡ length (leaves ++ leaf ∷ []) =
    omega (arith, len, count, length-append leaves (leaf ∷ [])) in
    let all : result.at ≡ (leaves ++ leaf ∷ []) ++ replicate (6 - length (leaves ++ leaf ∷ [])) 0 =
    at ∙ (ap (λ l. set l.at l.len leaf) is ∙ listed-more leaves leaf few) in
    ap₂ (λ n l. let made : Leaves = record { len = n; at = l } in made) longer all

-- a leaf a level
pub leaves_now-count : (levels : List Level) (block : ℕ) → length (leaves_now levels block) ≡ length levels
leaves_now-count [] block = refl
leaves_now-count (level ∷ above) block =
    let more = length-append (leaves_now above (block_above block)) (get_or level.leaves block 0 ∷ []) in
    omega (arith, more, leaves_now-count above (block_above block))

-- an access leaves the levels of leaves that the words say
pub led-levels : (before : List BlockTree) (block : ℕ) (words : Stream) (after : List BlockTree)
    → LeadsEach before block words after → levels_of after ≡ levels_after (levels_of before) block words
led-levels [] block words [] led = refl
led-levels [] block words (after ∷ others) led = absurd led
led-levels (before ∷ above) block words [] led = absurd led
led-levels (before ∷ above) block words (after ∷ others) led =
    let count : length (levels_of above) ≡ length above = length-map above tree_level in
    ap₂ (λ (l : Level) ls. l ∷ ls)
    (ap₂ (λ h l. let level : Level = record { height = h; leaves = l } in level) led.0.path.height
    (led.0.leaves ∙ ap (λ k. set before.places.leaves block (leaf_of before.places.height (word_at words k)))
    (sym count)))
    (led-levels above (block_above block) words others led.1)

-- what an access shows, and then what the bank will show
pub shown-step : (before after : List BlockTree) (s t : Stream) (block : ℕ) (shown : Leaves) (later : List ℕ)
    → LeadsEach before block s after → t ≡ words_left (length before) s
    → shown ≡ listed_leaves (leaves_now (levels_of before) block)
    → shown_ahead (levels_of before) s (block ∷ later) ≡ shown ∷ shown_ahead (levels_of after) t later
shown-step before after s t block shown later led drawn is =
    let count : length before ≡ length (levels_of before) = sym (length-map before tree_level) in
    ap₂ (λ (first : Leaves) rest. first ∷ rest) (sym is)
    (ap₂ (λ ls left. shown_ahead ls left later) (sym (led-levels before block s after led))
    (sym (drawn ∙ ap (λ n. words_left n s) count)))
