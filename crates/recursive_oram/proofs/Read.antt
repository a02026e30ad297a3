-- The leaves that a recursive bank will show are those of the words that the accesses read on each level.
use Rattle.std.proofs.Common.{◌≡◌, ℕ, suc, ◌+◌, ◌-◌, ◌*◌, ◌<◌, ◌≤◌, true, false, cond, nat_lt, List, [], ◌∷◌, ◌++◌, length, map, get_or, set, All, refl, sym, ap, ap₂, ◌∙◌, subst, ⊎_elim, arith}
use Rattle.std.proofs.lemmas.Bool.{cases_lt}
use Rattle.std.proofs.lemmas.Bool.Decides.{nat_tests}
use Rattle.std.proofs.lemmas.List.{length-map}
use Rattle.std.proofs.Math.Nat.{mul-le-mul_right, suc-mul}
use Rattle.rand_core.specs.Stream.{Stream}
use Rattle.banks.specs.declared.bank.Leaves.{Leaves}
use Rattle.banks.specs.Prelude.{listed_leaves}
use Rattle.path_oram.specs.Prelude.{Places, BlockTree, first_words, leaf_of, word_at, words_left, read_word_number}
use Rattle.path_oram.proofs.Ahead.{HasLeaves, first_words-at, has_first, has_next, number_bound, word_behind, words_left-more}
use Rattle.recursive_oram.specs.Prelude.{Level, block_above, leaves_now, tree_level, levels_after, shown_ahead, AreSizes, Size, leaves_read, leaves_read_after, rec_leaves, size_of, number_among_all, words_made, AreFirst, count_above}
use Rattle.recursive_oram.proofs.Kept.{block_exists}

-- a block has a block on each level
abbrev pub Exists : List Size → ℕ → Type 0
Exists [] block = Unit {0}
Exists (size ∷ above) block = (block < size.count) × Exists above (block_above block)

pub exists-all : (count block : ℕ) (sizes : List Size) → AreSizes count sizes → block < count → Exists sizes block
exists-all count block [] are less = absurd are
exists-all count block (size ∷ []) are less = (omega (arith, less, are.0), tt)
exists-all count block (size ∷ next ∷ above) are less = (
  omega (arith, less, are.0),
  exists-all (count_above count) (block_above block) (next ∷ above) are.3 (block_exists count block less),
)

-- the number of a word of a level that an access drew, and of one that made a leaf
drawn-number : (made levels start count above t : ℕ)
    → number_among_all made levels start count above (count + t) ≡ made + t * levels + above
drawn-number made levels start count above t =
    let late : nat_lt (count + t) count ≡ false = grind (arith, nat_tests) in
    let left : count + t - count ≡ t = omega arith in
    ap (λ b. cond b (start + (count + t)) (made + (count + t - count) * levels + above)) late
    ∙ ap (λ k. made + k * levels + above) left

made-number : (made levels start count above k : ℕ) → k < count
    → number_among_all made levels start count above k ≡ start + k
made-number made levels start count above k less =
    let early : nat_lt k count ≡ true = grind (arith, nat_tests) in
    ap (λ b. cond b (start + k) (made + (k - count) * levels + above)) early

-- a word that is read was drawn before
number-below : (made levels start count above t k : ℕ)
    → start + count ≤ made → above < levels → k < count + t
    → number_among_all made levels start count above k < made + t * levels
number-below made levels start count above t k before place less =
    ⊎_elim
    (λ early. omega (arith, made-number made levels start count above k early, before, early))
    (λ late.
    let back : count + (k - count) ≡ k = omega (arith, late) in
    let number : number_among_all made levels start count above k ≡ made + (k - count) * levels + above =
    ap (number_among_all made levels start count above) (sym back)
    ∙ drawn-number made levels start count above (k - count) in
    let turns : suc (k - count) * levels ≤ t * levels = mul-le-mul_right levels (omega (arith, less, late)) in
    omega (arith, number, place, turns, suc-mul (k - count) levels))
    (cases_lt k count)

module _ (words : Stream) (made levels : ℕ) where
  -- word number n of a level
  abbrev word_of : ℕ → ℕ → ℕ → ℕ → ℕ
  word_of start count above n = word_at words (number_among_all made levels start count above n)

  -- each level has the leaves that its blocks read next
  abbrev pub HaveLeaves : ℕ → List Size → List ℕ → List Level → Type 0
  HaveLeaves start [] earlier [] = Unit {0}
  HaveLeaves start [] earlier (level ∷ others) = ⊥
  HaveLeaves start (size ∷ above) earlier [] = ⊥
  HaveLeaves start (size ∷ above) earlier (level ∷ others) =
      (level.height ≡ size.height)
      × HasLeaves size.count size.height (word_of start size.count (length above)) earlier level.leaves
      × HaveLeaves (start + size.count) above (map block_above earlier) others

  pub have-count : (start : ℕ) (sizes : List Size) (earlier : List ℕ) (all : List Level)
      → HaveLeaves start sizes earlier all → length all ≡ length sizes
  have-count start [] earlier [] have = refl
  have-count start [] earlier (level ∷ others) have = absurd have
  have-count start (size ∷ above) earlier [] have = absurd have
  have-count start (size ∷ above) earlier (level ∷ others) have =
      ap suc (have-count (start + size.count) above (map block_above earlier) others have.2)

  -- what an access shows now
  now-read : (start n t : ℕ) (sizes : List Size) (earlier : List ℕ) (all : List Level) (block : ℕ)
      → HaveLeaves start sizes earlier all → Exists sizes block → start + words_made sizes ≤ made
      → length sizes ≤ levels → length earlier ≡ t → made + t * levels ≤ n
      → leaves_now all block ≡ leaves_read made levels start (first_words n words) sizes earlier block
  now-read start n t [] earlier [] block have exists before place count fits = refl
  now-read start n t [] earlier (level ∷ others) block have exists before place count fits = absurd have
  now-read start n t (size ∷ above) earlier [] block have exists before place count fits = absurd have
  now-read start n t (size ∷ above) earlier (level ∷ others) block have exists before place count fits =
      let number = read_word_number size.count earlier block in
      let all = number_among_all made levels start size.count (length above) number in
      let drawn : all < n =
      omega (
        arith,
        fits,
        number-below made levels start size.count (length above) t number (omega (arith, before))
            (omega (arith, place))
            (omega (arith, count, number_bound size.count earlier block exists.0)),
      ) in
      ap₂ (λ front leaf. front ++ leaf ∷ [])
      (now-read (start + size.count) n t above (map block_above earlier) others (block_above block) have.2 exists.1
      (omega (arith, before)) (omega (arith, place)) (length-map earlier block_above ∙ count) fits)
      (have.1.each block exists.0 ∙ ap (leaf_of size.height) (sym (first_words-at n all words drawn)))

  -- and what each level has afterwards
  next-have : (start t : ℕ) (sizes : List Size) (earlier : List ℕ) (all : List Level) (block : ℕ)
      → HaveLeaves start sizes earlier all → length earlier ≡ t
      → HaveLeaves start sizes (block ∷ earlier) (levels_after all block (words_left (made + t * levels) words))
  next-have start t [] earlier [] block have count = tt
  next-have start t [] earlier (level ∷ others) block have count = absurd have
  next-have start t (size ∷ above) earlier [] block have count = absurd have
  next-have start t (size ∷ above) earlier (level ∷ others) block have count =
      let seen = words_left (made + t * levels) words in
      let word : word_at seen (length others)
      ≡ word_of start size.count (length above) (size.count + length earlier) =
      word_behind (made + t * levels) (length others) words
      ∙ ap (word_at words) (ap (λ k. made + t * levels + k)
      (have-count (start + size.count) above (map block_above earlier) others have.2)
      ∙ (sym (drawn-number made levels start size.count (length above) t)
      ∙ ap (λ k. number_among_all made levels start size.count (length above) (size.count + k)) (sym count))) in (
        have.0,
        subst (HasLeaves size.count size.height (word_of start size.count (length above)) (block ∷ earlier))
            (ap₂ (λ h w. set level.leaves block (leaf_of h w)) (sym have.0) (sym word))
            (has_next size.count size.height (word_of start size.count (length above)) earlier level.leaves block
            have.1),
        next-have (start + size.count) t above (map block_above earlier) others (block_above block) have.2
            (length-map earlier block_above ∙ count),
      )

  -- the leaves of the accesses to come
  ahead-read : (n t : ℕ) (sizes : List Size) (blocks earlier : List ℕ) (all : List Level)
      → HaveLeaves 0 sizes earlier all → ((k d : ℕ) → k < length blocks → Exists sizes (get_or blocks k d))
      → words_made sizes ≡ made → length sizes ≡ levels → length earlier ≡ t
      → made + (t + length blocks) * levels ≤ n
      → shown_ahead all (words_left (made + t * levels) words) blocks
      ≡ leaves_read_after made levels (first_words n words) sizes earlier blocks
  ahead-read n t sizes [] earlier all have exist total place count fits = refl
  ahead-read n t sizes (block ∷ blocks) earlier all have exist total place count fits =
      let seen = words_left (made + t * levels) words in
      let most : t * levels ≤ (t + length (block ∷ blocks)) * levels = mul-le-mul_right levels (omega arith) in
      let next : suc t + length blocks ≡ t + length (block ∷ blocks) = omega arith in
      let left : words_left (length all) seen ≡ words_left (made + suc t * levels) words =
      let turn : made + t * levels + length all ≡ made + suc t * levels =
      omega (arith, have-count 0 sizes earlier all have, place, suc-mul t levels) in
      words_left-more (made + t * levels) (length all) words ∙ ap (λ k. words_left k words) turn in
      ap₂ (λ (first : Leaves) rest. first ∷ rest)
      (ap listed_leaves (now-read 0 n t sizes earlier all block have (exist 0 0 (omega arith)) (omega (arith, total))
      (omega (arith, place)) count (omega (arith, most, fits))))
      (ap (λ stream. shown_ahead (levels_after all block seen) stream blocks) left
      ∙ ahead-read n (suc t) sizes blocks (block ∷ earlier) (levels_after all block seen)
      (next-have 0 t sizes earlier all block have count)
      (λ k d less. exist (suc k) d (omega (arith, less))) total place (ap suc count)
      (subst (λ k. made + k * levels ≤ n) (sym next) fits))

-- ---- from the start on

-- one tree more
pub made-more : (words : Stream) (start : ℕ) (trees : List BlockTree) (tree : BlockTree) → AreFirst words start trees
    → AreFirst words (start + words_made (map size_of trees)) (tree ∷ []) → AreFirst words start (trees ++ tree ∷ [])
made-more words start [] tree are more =
    let none : start + 0 ≡ start = omega arith in subst (λ n. AreFirst words n (tree ∷ [])) none more
made-more words start (first ∷ trees) tree are more =
    let next : start + (length first.contents + words_made (map size_of trees))
    ≡ start + length first.contents + words_made (map size_of trees) = omega arith in (
      are.0,
      made-more words (start + length first.contents) trees tree are.1
          (subst (λ n. AreFirst words n (tree ∷ [])) next more),
    )

made-have : (words : Stream) (made levels start : ℕ) (trees : List BlockTree) → AreFirst words start trees
    → HaveLeaves words made levels start (map size_of trees) [] (map tree_level trees)
made-have words made levels start [] are = tt
made-have words made levels start (tree ∷ above) are =
    let count = length tree.contents in
    let word = word_of words made levels start count (length (map size_of above)) in (
      refl,
      subst (HasLeaves count tree.places.height word []) (sym (ap (λ (p : Places). p.leaves) are.0))
          (has_first count tree.places.height start words word
          (λ k less. ap (word_at words) (made-number made levels start count (length (map size_of above)) k less))),
      made-have words made levels (start + count) above are.1,
    )

-- what a bank shows from its making on
pub start-shown : (words left : Stream) (count : ℕ) (trees : List BlockTree)
    → AreFirst words 0 trees → AreSizes count (map size_of trees)
    → left ≡ words_left (words_made (map size_of trees)) words
    → (list : List ℕ) → All (λ block. block < count) list
    → shown_ahead (map tree_level trees) left list
    ≡ rec_leaves (first_words (words_made (map size_of trees) + length list * length trees) words) (map size_of trees)
    list
start-shown words left count trees are sizes drawn list exist =
    let made = words_made (map size_of trees) in
    let levels = length (map size_of trees) in
    let none : made ≡ made + 0 * levels = omega arith in
    let all : made + (0 + length list) * levels ≡ made + length list * length trees =
    ap₂ (λ n k. made + n * k) (omega arith) (length-map trees size_of) in
    ap (λ stream. shown_ahead (map tree_level trees) stream list)
    (drawn ∙ ap (λ n. words_left n words) none)
    ∙ ahead-read words made levels (made + length list * length trees) 0 (map size_of trees) list []
    (map tree_level trees)
    (made-have words made levels 0 trees are)
    (λ k d less. exists-all count (get_or list k d) (map size_of trees) sizes (exist k d less)) refl refl refl
    (omega (arith, all))
