-- The oblivious banks that a run begins with are those of its object, one by one.
use Rattle.std.proofs.Common.{◌≡◌, ℕ, zero, suc, ◌+◌, ◌-◌, ◌*◌, ◌≤◌, ◌<◌, Bool, true, false, cond, nat_lt, ℤ, List, [], ◌∷◌, ◌++◌, length, map, set, take, refl, sym, ap, ap₂, ◌∙◌, subst, arith}
use Rattle.std.specs.List.{All, range_with_len}
use Rattle.std.specs.Prelude.{Result, Ok, Err, IfOk, replicate, slice_get}
use Rattle.std.specs.Int.{w64, to_le_bytes}
use Rattle.std.proofs.lemmas.Bool.{ltb-true}
use Rattle.std.proofs.lemmas.List.{length-take-le}
use Rattle.std.proofs.lemmas.List.Elements.{All-cons, All-nil}
use Rattle.lt_isa.specs.Prelude.{Parts, block_words, blocks_of, IsInRange, start_bank}
use Rattle.lt_isa.proofs.Cycles.{bank-fits}
use Rattle.lt_isa.proofs.Starts.{length-start_bank}
use Rattle.banks.specs.Prelude.{one_leaf, Blocks}
use Rattle.processor.specs.Prelude.{starting_bank, oram_of}
use Rattle.path_oram.specs.Prelude.{Oram, paths_ahead, first_places, IsHeightFor, first_words, leaf_of, words_left, leaves_shown}
use Rattle.recursive_oram.specs.Prelude.{shown_ahead, AreSizes, rec_leaves, size_of, words_made, Recursive, levels_of, all_trees}
use Rattle.rand_chacha.specs.ChaCha.{ChaCha, of_seed}
use Rattle.call_steps.specs.Prelude.{seeded_words, seed_bytes, stream_from, BankBegins, BeginFrom, RecursiveBegins, OfOram}

module _ {B : Type 0} (Begins : ℕ → B → Type 0) where
  -- one bank more
  pub begin-more : (b : ℕ) (orams : List B) (oram : B) → BeginFrom Begins b orams
      → Begins (b + length orams) oram → BeginFrom Begins b (orams ++ oram ∷ [])
  begin-more b [] oram begun more = let none : b + 0 ≡ b = omega arith in (subst (λ n. Begins n oram) none more, tt)
  begin-more b (first ∷ orams) oram begun more =
      let next : b + suc (length orams) ≡ b + 1 + length orams = omega arith in
      (begun.0, begin-more (b + 1) orams oram begun.1 (subst (λ n. Begins n oram) next more))

  -- a fact of each bank
  pub begin-contents : (o : Parts) (inputs : List (List ℤ)) (contents : B → List (List ℤ))
      → ((b : ℕ) (oram : B) → Begins b oram → contents oram ≡ start_bank o inputs b)
      → (b : ℕ) (orams : List B) → BeginFrom Begins b orams
      → map contents orams ≡ map (start_bank o inputs) (range_with_len b (length orams))
  begin-contents o inputs contents with b [] begun = refl
  begin-contents o inputs contents with b (oram ∷ orams) begun =
      ap₂ (λ x (y : List (List (List ℤ))). x ∷ y) (with b oram begun.0)
      (begin-contents o inputs contents with (b + 1) orams begun.1)

  pub begin-widths : (o : Parts) (width : B → ℕ)
      → ((b : ℕ) (oram : B) → Begins b oram → width oram ≡ block_words o)
      → (b : ℕ) (orams : List B) → BeginFrom Begins b orams → All (λ oram. width oram ≡ block_words o) orams
  begin-widths o width wide b [] begun = All-nil (λ oram. width oram ≡ block_words o)
  begin-widths o width wide b (oram ∷ orams) begun =
      All-cons (λ oram. width oram ≡ block_words o) oram orams (wide b oram begun.0)
      (begin-widths o width wide (b + 1) orams begun.1)

  -- the bank of a number
  pub begin-at : (b : ℕ) (orams : List B) → BeginFrom Begins b orams → (i : ℕ) → i < length orams
      → OfOram (slice_get orams i) (λ oram. Begins (b + i) oram)
  begin-at b [] begun i less = absurd (omega (arith, less))
  begin-at b (oram ∷ orams) begun zero less =
      let none : b ≡ b + 0 = omega arith in subst (λ n. Begins n oram) none begun.0
  begin-at b (oram ∷ orams) begun (suc i) less =
      let next : b + 1 + i ≡ b + suc i = omega arith in
      subst (λ n. OfOram (slice_get orams i) (λ other. Begins n other)) next
      (begin-at (b + 1) orams begun.1 i (omega (arith, less)))

  pub each-begins : (banks : ℕ) (orams : List B) → length orams ≡ banks - 2 → BeginFrom Begins 2 orams
      → (b : ℕ) → 2 ≤ b → b < banks → OfOram (oram_of orams b) (λ oram. Begins b oram)
  each-begins banks orams count begun zero two exists = absurd (omega (arith, two))
  each-begins banks orams count begun (suc zero) two exists = absurd (omega (arith, two))
  each-begins banks orams count begun (suc (suc i)) two exists =
      let number : 2 + i ≡ suc (suc i) = omega arith in
      subst (λ n. OfOram (slice_get orams i) (λ oram. Begins n oram)) number
      (begin-at 2 orams begun i (omega (arith, exists, count)))

-- ---- one bank

-- the bytes of the seed, then two bytes among zeros
pub seeded-bytes : (front : List ℕ) (seed core b : ℕ)
    → front ≡ to_le_bytes w64 seed → set (set (front ++ replicate 24 0) 8 b) 9 core ≡ seed_bytes seed core b
unfolding seed_bytes
seeded-bytes front seed core b is = ap (λ f. set (set (f ++ replicate 24 0) 8 b) 9 core) is

-- an oblivious bank has at most 4,096 blocks
pub oblivious-most : (o : Parts) → IsInRange o → (b : ℕ) → 2 ≤ b → b < length o.banks → blocks_of o b ≤ 4096
oblivious-most o fits b two exists =
    within (nat_lt (length (take b o.banks)) 2) refl (blocks_of o b) (bank-fits o fits b exists).blocks.1
  where
    within : (few : Bool) → nat_lt (length (take b o.banks)) 2 ≡ few → (n : ℕ) → n ≤ cond few 65536 4096 → n ≤ 4096
    within true is n most =
        absurd (omega (arith, two, exists, length-take-le b o.banks (omega (arith, exists)), ltb-true _ _ is))
    within false is n most = most

-- a bank over the blocks that the object's has at the start begins so
module _ (o : Parts) (inputs : List (List ℤ)) (seed core b : ℕ) (blocks : Blocks)
    (starts : blocks ≡ starting_bank o inputs b) (source : ChaCha)
    (seeded : source ≡ of_seed (seed_bytes seed core b)) where
  count-is : length blocks.contents ≡ blocks_of o b
  count-is = ap (λ bank. length bank.contents) starts ∙ length-start_bank o inputs b

  words-are : stream_from source ≡ seeded_words seed core b
  words-are = ap stream_from seeded

  -- a bank that was made begins so
  pub begins-made : {E : Type 0} (made : Result (Oram ChaCha) E)
      → IfOk made (λ oram. oram.contents ≡ blocks.contents) → IfOk made (λ oram. oram.width ≡ blocks.width)
      → IfOk made (λ oram. IsHeightFor (length blocks.contents) oram.places.height)
      → IfOk made (λ oram. oram.places ≡ first_places oram.places.height
      (map (leaf_of oram.places.height) (first_words (length blocks.contents) (stream_from source))))
      → IfOk made (λ oram. stream_from oram.words ≡ words_left (length blocks.contents) (stream_from source))
      → IfOk made (λ oram. (list : List ℕ) → All (λ block. block < length blocks.contents) list
      → paths_ahead oram.places (stream_from oram.words) list ≡ map one_leaf (leaves_shown (length blocks.contents)
      oram.places.height (first_words (length blocks.contents + length list) (stream_from source)) list))
      → IfOk made (BankBegins o inputs seed core b)
  begins-made (Ok oram) contents width height first drawn shown = record {
    contents = contents ∙ ap (λ bank. bank.contents) starts;
    width = width ∙ ap (λ bank. bank.width) starts;
    height = subst (λ n. IsHeightFor n oram.places.height) count-is height;
    first =
        first ∙ ap₂ (λ n s. first_places oram.places.height (map (leaf_of oram.places.height) (first_words n s)))
        count-is words-are;
    words = drawn ∙ ap₂ (λ n s. words_left n s) count-is words-are;
    shown = λ list exist. shown list (subst (λ n. All (λ block. block < n) list) (sym count-is) exist)
        ∙ ap₂ (λ n s. map one_leaf (leaves_shown n oram.places.height (first_words (n + length list) s) list))
        count-is words-are;
  }
  begins-made (Err e) contents width height first drawn shown = tt

  -- and so does a recursive one
  pub recursive-made : {E : Type 0} (made : Result (Recursive ChaCha) E)
      → IfOk made (λ oram. oram.tree.contents ≡ blocks.contents) → IfOk made (λ oram. oram.tree.width ≡ blocks.width)
      → IfOk made (λ oram. AreSizes (length blocks.contents) (map size_of (all_trees oram)))
      → IfOk made (λ oram. (list : List ℕ) → All (λ block. block < length blocks.contents) list
      → shown_ahead (levels_of (all_trees oram)) (stream_from oram.words) list
      ≡ rec_leaves (first_words (words_made (map size_of (all_trees oram)) + length list * length (all_trees oram))
      (stream_from source)) (map size_of (all_trees oram)) list)
      → IfOk made (RecursiveBegins o inputs seed core b)
  recursive-made (Ok oram) contents width sizes shown = record {
    contents = contents ∙ ap (λ bank. bank.contents) starts;
    width = width ∙ ap (λ bank. bank.width) starts;
    sizes = subst (λ n. AreSizes n (map size_of (all_trees oram))) count-is sizes;
    shown = λ list exist. shown list (subst (λ n. All (λ block. block < n) list) (sym count-is) exist)
        ∙ ap (λ s. rec_leaves
        (first_words (words_made (map size_of (all_trees oram)) + length list * length (all_trees oram)) s)
        (map size_of (all_trees oram)) list) words-are;
  }
  recursive-made (Err e) contents width sizes shown = tt
