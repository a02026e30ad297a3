-- The blocks of words in sequence, before and after a block is replaced.
use Rattle.std.proofs.Common.{◌≡◌, ℕ, zero, suc, ◌+◌, ◌*◌, ◌-◌, ◌/◌, ◌%◌, ◌<◌, ◌≤◌, ◌≢◌, ◌⊎◌, inl, inr, true, false, cond, ◌&&◌, ℤ, pos, List, [], ◌∷◌, ◌++◌, length, map, get_or, set, take, drop, replicate, refl, sym, ap, ◌∙◌, subst, ⊎_elim, arith, add-one}
use Rattle.std.specs.Prelude.{nat_le, nat_lt}
use Rattle.std.proofs.lemmas.Bool.{cases_lt, cases_eq}
use Rattle.std.proofs.lemmas.Bool.Decides.{nat_tests}
use Rattle.std.proofs.lemmas.List.{get_or-take, get_or-drop, get_or-set_same, get_or-set_other, get_or-replicate, get_or_append_left, get_or-append_right, get_or_past, ext_get_or, append-nil, take_all, length-set, length-take-le, length-drop, length-append, length-replicate}
use Rattle.std.proofs.lemmas.List.FromFn.{fill_by_all, length-map-range_with_len, get_or-map-range_with_len, map-range_with_len_more}
use Rattle.std.proofs.lemmas.List.Concat.{flat_map-append}
use Rattle.std.proofs.Math.Nat.{mul-le-mul_right, zero-mul, suc-mul}
use Rattle.std.proofs.Math.Seq.{take-add}
use Rattle.std.specs.List.{range_with_len}
use Rattle.lt_isa.specs.Prelude.{word_in}
use Rattle.banks.specs.Prelude.{block_numbered, Blocks, block_of_words, cut, filled_up, in_blocks, words_of_blocks}

-- n blocks are cut
pub length-cut : (w n : ℕ) (words : List ℤ) → length (cut w n words) ≡ n
unfolding cut
length-cut w n words = length-map-range_with_len (block_of_words w words) 0 n

-- one block of those that are cut
pub block-cut : (w n : ℕ) (words : List ℤ) (at : ℕ) → at < n → block_numbered (cut w n words) at
    ≡ block_of_words w words at
unfolding cut
block-cut w n words at exists = get_or-map-range_with_len (block_of_words w words) 0 n at at [] exists (omega arith)

-- word number i of a block
pub word-cut : (w n : ℕ) (words : List ℤ) (at i : ℕ)
    → at < n → i < w → word_in (block_numbered (cut w n words) at) i ≡ get_or words (at * w + i) (pos 0)
word-cut w n words at i exists within =
    ap (λ block. word_in block i) (block-cut w n words at exists)
    ∙ (get_or-take w (drop (at * w) words) i (pos 0) within ∙ get_or-drop (at * w) words i (pos 0))

-- the words of the first n blocks in sequence
words_of_front : (w n : ℕ) (words : List ℤ) → words_of_blocks (cut w n words) ≡ take (n * w) words
unfolding cut
words_of_front w zero words = ap (λ k. take k words) (sym (zero-mul w))
words_of_front w (suc n) words =
    ap words_of_blocks (ap (λ k. map (block_of_words w words) (range_with_len 0 k)) (sym (add-one n))
    ∙ map-range_with_len_more (block_of_words w words) 0 n n (omega arith))
    ∙ (flat_map-append (λ block. block) (cut w n words) (block_of_words w words n ∷ [])
    ∙ (ap (λ list. list ++ (block_of_words w words n ++ [])) (words_of_front w n words)
    ∙ (ap (λ list. take (n * w) words ++ list) (append-nil (block_of_words w words n))
    ∙ (sym (take-add (n * w) w words) ∙ ap (λ k. take k words) (sym (suc-mul n w))))))

-- the words of all blocks in sequence are the words that were cut
pub words_of_cut : (w n : ℕ) (words : List ℤ) → length words ≡ n * w → words_of_blocks (cut w n words) ≡ words
words_of_cut w n words all = words_of_front w n words ∙ take_all (n * w) words (omega arith)

-- a block that exists ends within the words
pub block_end : (w n at : ℕ) → at < n → at * w + w ≤ n * w
block_end w n at exists =
    let up : at + 1 ≤ n = omega arith in
    let grown : (at + 1) * w ≤ n * w = mul-le-mul_right w up in
    omega (arith, grown)

-- a block has w words
pub length-block_of_words : (w n : ℕ) (words : List ℤ) (at : ℕ)
    → length words ≡ n * w → at < n → length (block_of_words w words at) ≡ w
length-block_of_words w n words at all exists =
    let end : at * w + w ≤ n * w = block_end w n at exists in
    length-take-le w (drop (at * w) words) (omega (arith, end, all, length-drop (at * w) words))

-- the number of words after zeros are appended
pub filled_up-more : (n : ℕ) (words : List ℤ) → length (filled_up n words) ≡ length words + (n - length words)
unfolding filled_up
filled_up-more n words =
    length-append words (replicate (n - length words) (pos 0))
    ∙ ap (λ k. length words + k) (length-replicate (n - length words) (pos 0))

-- words that are filled up to n are n words
pub length-filled_up : (n : ℕ) (words : List ℤ) → length words ≤ n → length (filled_up n words) ≡ n
length-filled_up n words within = omega (arith, filled_up-more n words)

zero-replicate : (m i : ℕ) → get_or (replicate m (pos 0)) i (pos 0) ≡ pos 0
zero-replicate m i =
    ⊎_elim
    (λ below. get_or-replicate m i (pos 0) (pos 0) below)
    (λ past. get_or_past (replicate m (pos 0)) i (pos 0) (omega (arith, past, length-replicate m (pos 0))))
    (cases_lt i m)

-- appended zeros change no word, since a word past the end is read as 0
pub get_or-filled_up : (n : ℕ) (words : List ℤ) (i : ℕ) → get_or (filled_up n words) i (pos 0) ≡ get_or words i (pos 0)
unfolding filled_up
get_or-filled_up n words i =
    let zeros : List ℤ = replicate (n - length words) (pos 0) in
    ⊎_elim
    (λ below. get_or_append_left words zeros (pos 0) i below)
    (λ past.
    get_or-append_right words zeros (length words) i (pos 0) refl (omega arith)
    ∙ (zero-replicate (n - length words) (i - length words) ∙ sym (get_or_past words i (pos 0) (omega arith))))
    (cases_lt i (length words))

-- n words or more stay as they are
pub filled_up_full : (n : ℕ) (words : List ℤ) → n ≤ length words → filled_up n words ≡ words
unfolding filled_up
filled_up_full n words full =
    let none : n - length words ≡ 0 = omega arith in
    ap (λ k. words ++ replicate k (pos 0)) none ∙ append-nil words

-- a block is determined by its words
pub block-by_index : (w n : ℕ) (words : List ℤ) (at : ℕ) (block : List ℤ)
    → length words ≡ n * w → at < n → length block ≡ w
    → ((i : ℕ) → i < w → get_or words (at * w + i) (pos 0) ≡ get_or block i (pos 0)) → block_of_words w words at ≡ block
block-by_index w n words at block all exists size same =
    let long : length (block_of_words w words at) ≡ w = length-block_of_words w n words at all exists in
    ext_get_or (pos 0) (block_of_words w words at) block (long ∙ sym size)
    (λ i below.
    let within : i < w = omega arith in
    get_or-take w (drop (at * w) words) i (pos 0) within ∙ (get_or-drop (at * w) words i (pos 0) ∙ same i within))

-- the words after those of a block were replaced
abbrev pub IsReplaced : List ℤ → List ℤ → ℕ → List ℤ → Type 0
IsReplaced new old start block =
    (i : ℕ) → get_or new i (pos 0)
    ≡ cond (nat_le start i && nat_lt i (start + length block)) (get_or block (i - start) (pos 0)) (get_or old i (pos 0))

replaced-at : (new old : List ℤ) (start : ℕ) (block : List ℤ) → IsReplaced new old start block → (i : ℕ)
    → i < length block → get_or new (start + i) (pos 0) ≡ get_or block i (pos 0)
replaced-at new old start block is i within =
    let here : (nat_le start (start + i) && nat_lt (start + i) (start + length block)) ≡ true =
    grind (arith, nat_tests) in
    let place : start + i - start ≡ i = omega arith in
    is (start + i)
    ∙ (ap (λ b. cond b (get_or block (start + i - start) (pos 0)) (get_or old (start + i) (pos 0))) here
    ∙ ap (λ k. get_or block k (pos 0)) place)

replaced-apart : (new old : List ℤ) (start : ℕ) (block : List ℤ) → IsReplaced new old start block → (i : ℕ)
    → (i < start) ⊎ (start + length block ≤ i) → get_or new i (pos 0) ≡ get_or old i (pos 0)
replaced-apart new old start block is i apart =
    let other : (nat_le start i && nat_lt i (start + length block)) ≡ false =
    ⊎_elim (λ before. grind (arith, nat_tests)) (λ behind. grind (arith, nat_tests)) apart in
    is i ∙ ap (λ b. cond b (get_or block (i - start) (pos 0)) (get_or old i (pos 0))) other

-- a word of another block is before the block or after it
apart-from : (w at k i : ℕ) → i < w → k ≢ at → (k * w + i < at * w) ⊎ (at * w + w ≤ k * w + i)
apart-from w at k i within other =
    ⊎_elim
    (λ before. let below : k * w + w ≤ at * w = block_end w at k before in inl (omega arith))
    (λ rest. let above : at * w + w ≤ k * w = block_end w k at (omega arith) in inr (omega arith))
    (cases_lt k at)

-- cut after the words of a block were replaced, the blocks are the same but for that block
pub cut-replaced : (w n : ℕ) (new old : List ℤ) (at : ℕ) (block : List ℤ)
    → length new ≡ n * w → length old ≡ n * w → at < n → length block ≡ w → IsReplaced new old (at * w) block
    → cut w n new ≡ set (cut w n old) at block
unfolding cut
cut-replaced w n new old at block all as_many exists size is =
    sym (fill_by_all (block_of_words w new) (set (cut w n old) at block) n []
    (length-set (cut w n old) at block ∙ length-cut w n old) (λ k below.
    ⊎_elim
    (λ same. subst (λ m. get_or (set (cut w n old) at block) m [] ≡ block_of_words w new m) (sym same)
    (get_or-set_same (cut w n old) at block [] (subst (λ m. at < m) (sym (length-cut w n old)) exists)
    ∙ sym (block-by_index w n new at block all exists size
    (λ i within. replaced-at new old (at * w) block is i (omega arith)))))
    (λ other.
    get_or-set_other (cut w n old) at k block [] other
    ∙ (block-cut w n old k below
    ∙ sym (block-by_index w n new k (block_of_words w old k) all below (length-block_of_words w n old k as_many below)
    (λ i within.
    replaced-apart new old (at * w) block is (k * w + i)
    (⊎_elim (λ before. inl before) (λ behind. inr (omega arith)) (apart-from w at k i within other))
    ∙ sym (get_or-take w (drop (k * w) old) i (pos 0) within ∙ get_or-drop (k * w) old i (pos 0))))))
    (cases_eq k at)))

-- replacing a word of a block among all words replaces it in the block
one-of-block : (new old : List ℤ) (start index : ℕ) (word : ℤ) (before : List ℤ) → index < length before
    → ((i : ℕ) → i < length before → get_or old (start + i) (pos 0) ≡ get_or before i (pos 0))
    → IsReplaced new old (start + index) (word ∷ []) → IsReplaced new old start (set before index word)
one-of-block new old start index word before inside same one i =
    let block = set before index word in
    let size : length block ≡ length before = length-set before index word in
    let beside : (i < start + index) ⊎ (start + index + 1 ≤ i) → get_or new i (pos 0) ≡ get_or old i (pos 0) =
    λ apart. replaced-apart new old (start + index) (word ∷ []) one i apart in
    let else : (nat_le start i && nat_lt i (start + length block)) ≡ false → get_or new i (pos 0) ≡ get_or old i (pos 0)
    → get_or new i (pos 0) ≡ cond (nat_le start i && nat_lt i (start + length block)) (get_or block (i - start) (pos 0))
    (get_or old i (pos 0)) =
    λ test is. is ∙ ap (λ b. cond b (get_or block (i - start) (pos 0)) (get_or old i (pos 0))) (sym test) in
    ⊎_elim
    (λ early. else (grind (arith, nat_tests)) (beside (inl (omega (arith, early)))))
    (λ from. ⊎_elim
    (λ below.
    let here : (nat_le start i && nat_lt i (start + length block)) ≡ true = grind (arith, nat_tests) in
    let back : start + (i - start) ≡ i = omega (arith, from) in
    ⊎_elim
    (λ is.
    let place : start + index + 0 ≡ i = omega (arith, back, is) in
    sym (ap (λ k. get_or new k (pos 0)) place) ∙ replaced-at new old (start + index) (word ∷ []) one 0 (omega arith)
    ∙ sym (ap (λ k. get_or block k (pos 0)) is ∙ get_or-set_same before index word (pos 0) inside))
    (λ other.
    let apart : (i < start + index) ⊎ (start + index + 1 ≤ i) =
    ⊎_elim (λ less. inl (omega (arith, back, less))) (λ more. inr (omega (arith, back, other, more)))
    (cases_lt (i - start) index) in
    beside apart
    ∙ (sym (ap (λ k. get_or old k (pos 0)) back)
    ∙ (same (i - start) (omega (arith, back, below, size))
    ∙ sym (get_or-set_other before index (i - start) word (pos 0) other))))
    (cases_eq (i - start) index)
    ∙ ap (λ b. cond b (get_or block (i - start) (pos 0)) (get_or old i (pos 0))) (sym here))
    (λ past. else (grind (arith, nat_tests)) (beside (inr (omega (arith, past, size, inside)))))
    (cases_lt i (start + length block)))
    (cases_lt i start)

-- how contracts see a bank that stores its first words in sequence
abbrev pub seen_as : ℕ → ℕ → List ℤ → Blocks
seen_as w n words = record { contents = cut w n (filled_up (n * w) words); width = w }

-- the number of blocks as which words are seen
pub count_of : (w n : ℕ) (words : List ℤ) (bank : Blocks) → seen_as w n words ≡ bank → n ≡ length bank.contents
count_of w n words bank is = sym (length-cut w n (filled_up (n * w) words)) ∙ ap (λ b. length b.contents) is

-- a block of the bank is one of the blocks as which the words are seen
pub exists_in : (w n : ℕ) (words : List ℤ) (bank : Blocks) (at : ℕ)
    → seen_as w n words ≡ bank → at < length bank.contents → at < n
exists_in w n words bank at is exists = subst (λ m. at < m) (sym (count_of w n words bank is)) exists

module _ (w n : ℕ) (words : List ℤ) (within : length words ≤ n * w) (bank : Blocks) (is : seen_as w n words ≡ bank)
    (at : ℕ) (exists : at < length bank.contents) (start : ℕ) (starts : start ≡ at * w) where
  -- a word of a block, by its place among all words
  pub word_of_bank : (i : ℕ) → i < bank.width → get_or words (start + i) (pos 0)
      ≡ word_in (block_numbered bank.contents at) i
  word_of_bank i inside =
      let below : i < w = subst (λ m. i < m) (sym (ap (λ b. b.width) is)) inside in
      ap (λ k. get_or words (k + i) (pos 0)) starts
      ∙ (sym (get_or-filled_up (n * w) words (at * w + i))
      ∙ (sym (word-cut w n (filled_up (n * w) words) at i (exists_in w n words bank at is exists) below)
      ∙ ap (λ b. word_in (block_numbered b.contents at) i) is))

  -- words that are equal to those of a block are the block
  pub block_of_bank : (into : List ℤ) → length into ≡ bank.width
      → ((i : ℕ) → i < length into → get_or into i (pos 0) ≡ get_or words (start + i) (pos 0))
      → into ≡ block_numbered bank.contents at
  block_of_bank into size read =
      let wide : length into ≡ w = size ∙ sym (ap (λ b. b.width) is) in
      let there : at < n = exists_in w n words bank at is exists in
      sym (block-by_index w n (filled_up (n * w) words) at into (length-filled_up (n * w) words within) there wide
      (λ i below.
      get_or-filled_up (n * w) words (at * w + i)
      ∙ (ap (λ k. get_or words (k + i) (pos 0)) (sym starts) ∙ sym (read i (omega arith)))))
      ∙ (sym (block-cut w n (filled_up (n * w) words) at there) ∙ ap (λ b. block_numbered b.contents at) is)

  -- replacing the words of a block replaces the block
  pub bank_replaced : (new block : List ℤ)
      → length new ≤ n * w → length block ≡ bank.width → IsReplaced new words start block
      → seen_as w n new ≡ record { contents = set bank.contents at block; width = bank.width }
  bank_replaced new block fits size replaced =
      let wide : length block ≡ w = size ∙ sym (ap (λ b. b.width) is) in
      ap (λ c. let b : Blocks = record { contents = c; width = w } in b)
      (cut-replaced w n (filled_up (n * w) new) (filled_up (n * w) words) at block (length-filled_up (n * w) new fits)
      (length-filled_up (n * w) words within)
      (exists_in w n words bank at is exists) wide
      (λ i.
      get_or-filled_up (n * w) new i
      ∙ (replaced i
      ∙ (ap (λ k.
      cond (nat_le k i && nat_lt i (k + length block)) (get_or block (i - k) (pos 0)) (get_or words i (pos 0))) starts
      ∙ ap (cond (nat_le (at * w) i && nat_lt i (at * w + length block)) (get_or block (i - at * w) (pos 0)))
      (sym (get_or-filled_up (n * w) words i))))))
      ∙ ap (λ (b : Blocks). let c : Blocks = record { contents = set b.contents at block; width = b.width } in c) is

  -- replacing one word of a block
  pub word_replaced : (new : List ℤ) (index place : ℕ) (word : ℤ) → place ≡ start + index → index < bank.width
      → length new ≤ n * w → IsReplaced new words place (word ∷ []) → seen_as w n new ≡ record {
        contents = set bank.contents at (set (block_numbered bank.contents at) index word);
        width = bank.width;
      }
  word_replaced new index place word is_at inside fits one =
      let old = block_numbered bank.contents at in
      let wide : bank.width ≡ w = sym (ap (λ b. b.width) is) in
      let there : at < n = exists_in w n words bank at is exists in
      let cut_there = block-cut w n (filled_up (n * w) words) at there in
      let long : length old ≡ w =
      sym (ap (λ b. length (block_numbered b.contents at)) is)
      ∙ (ap length cut_there
      ∙ length-block_of_words w n (filled_up (n * w) words) at (length-filled_up (n * w) words within) there) in
      bank_replaced new (set old index word) fits (length-set old index word ∙ (long ∙ sym wide))
      (one-of-block new words start index word old (omega (arith, inside, wide, long))
      (λ i below. word_of_bank i (omega (arith, below, long, wide)))
      (subst (λ k. IsReplaced new words k (word ∷ [])) is_at one))

-- a bank of whole blocks keeps all of them
pub whole-bank : (w : ℕ) (words : List ℤ) (n : ℕ)
    → 0 < w → n ≡ length words → length words % w ≡ 0 → cut w (n / w) (filled_up (n / w * w) words) ≡ in_blocks w words
whole-bank w words n some is whole =
    rw is
    (let all : length words / w * w ≡ length words = omega arith in
    ap (cut w (length words / w)) (filled_up_full (length words / w * w) words (omega arith)))
