-- The leaves that a bank will show are determined by the words that its accesses read.
use Rattle.std.proofs.Common.{◌≡◌, ℕ, zero, suc, ◌+◌, ◌<◌, ◌≤◌, cond, List, [], ◌∷◌, ◌++◌, length, map, get_or, set, All, refl, sym, ap, ◌∙◌, ⊎_elim, arith, get_or-set_same, get_or-set_other}
use Rattle.std.proofs.lemmas.Bool.{cases_eq, eq-eqb, ne_eqb}
use Rattle.std.proofs.lemmas.List.{get_or-map, length-map, length-set, map-append}
use Rattle.rand_core.specs.Stream.{Stream, next_u64}
use Rattle.banks.specs.declared.bank.Leaves.{Leaves}
use Rattle.banks.specs.Prelude.{one_leaf}
use Rattle.path_oram.specs.Prelude.{MovesBy, leaves_ahead, paths_ahead, Places, first_words, leaf_of, word_at, words_left, leaves_shown, read_word_number, words_read, words_read_after}

-- what is left after one more word
pub words_left-one : (words : Stream) (k : ℕ) → words_left (suc k) words ≡ (next_u64 (words_left k words)).1
words_left-one words zero = refl
words_left-one words (suc k) = words_left-one (next_u64 words).1 k

-- what is left after words and then others
pub words_left-more : (n k : ℕ) (words : Stream) → words_left k (words_left n words) ≡ words_left (n + k) words
words_left-more zero k words = let none : k ≡ 0 + k = omega arith in ap (λ m. words_left m words) none
words_left-more (suc n) k words =
    let next : suc (n + k) ≡ suc n + k = omega arith in
    words_left-more n k (next_u64 words).1 ∙ ap (λ m. words_left m words) next

-- word number k after n others
pub word_behind : (n k : ℕ) (words : Stream) → word_at (words_left n words) k ≡ word_at words (n + k)
word_behind n k words = ap (λ left. (next_u64 left).0) (words_left-more n k words)

-- n words are drawn
pub length-first_words : (n : ℕ) (words : Stream) → length (first_words n words) ≡ n
length-first_words zero words = refl
length-first_words (suc n) words = ap suc (length-first_words n (next_u64 words).1)

pub first_words-at : (n k : ℕ) (words : Stream) → k < n → get_or (first_words n words) k 0 ≡ word_at words k
first_words-at zero k words less = absurd (omega arith)
first_words-at (suc n) zero words less = refl
first_words-at (suc n) (suc k) words less = first_words-at n k (next_u64 words).1 (omega arith)

pub first_words-one : (n : ℕ) (words : Stream) → first_words (suc n) words ≡ first_words n words ++ word_at words n ∷ []
first_words-one zero words = refl
first_words-one (suc n) words = ap (λ l. (next_u64 words).0 ∷ l) (first_words-one n (next_u64 words).1)

-- one more leaf, and the words that are left
pub leaves-one : (height n : ℕ) (words : Stream) (leaves more : List ℕ) (word leaf : ℕ) (left next : Stream)
    → leaves ≡ map (leaf_of height) (first_words n words) → left ≡ words_left n words → (word, next) ≡ next_u64 left
    → leaf ≡ leaf_of height word → more ≡ leaves ++ leaf ∷ [] → more ≡ map (leaf_of height) (first_words (n + 1) words)
leaves-one height n words leaves more word leaf left next before seen drawn made is =
    let one : suc n ≡ n + 1 = omega arith in
    let number : word ≡ word_at words n = ap (λ p. p.0) drawn ∙ ap (λ l. (next_u64 l).0) seen in
    is ∙ ap (λ l. l ++ leaf ∷ []) before
    ∙ ap (λ l. map (leaf_of height) (first_words n words) ++ l ∷ []) (made ∙ ap (leaf_of height) number)
    ∙ sym (map-append (leaf_of height) (first_words n words) (word_at words n ∷ []))
    ∙ ap (map (leaf_of height)) (sym (first_words-one n words))
    ∙ ap (λ k. map (leaf_of height) (first_words k words)) one

-- one more word is drawn
pub left-one : (n : ℕ) (words : Stream) (word : ℕ) (left next : Stream)
    → left ≡ words_left n words → (word, next) ≡ next_u64 left → next ≡ words_left (n + 1) words
left-one n words word left next seen drawn =
    let one : suc n ≡ n + 1 = omega arith in
    ap (λ p. p.1) drawn ∙ ap (λ l. (next_u64 l).1) seen ∙ sym (words_left-one words n)
    ∙ ap (λ k. words_left k words) one

-- what an access shows, and then what the bank will show
pub ahead-step : (p q : Places) (s t : Stream) (block : ℕ) (shown : Leaves) (later : List ℕ)
    → MovesBy p block (next_u64 s).0 q → t ≡ (next_u64 s).1 → shown ≡ one_leaf (get_or p.leaves block 0)
    → paths_ahead p s (block ∷ later) ≡ shown ∷ paths_ahead q t later
ahead-step p q s t block shown later moved drawn is =
    ap (λ first. first ∷ map one_leaf (leaves_ahead p.height (set p.leaves block (leaf_of p.height (next_u64 s).0))
    (next_u64 s).1 later)) (sym is)
    ∙ ap (λ leaves. shown ∷ map one_leaf (leaves_ahead p.height leaves (next_u64 s).1 later)) (sym moved.leaves)
    ∙ ap (λ height. shown ∷ map one_leaf (leaves_ahead height q.leaves (next_u64 s).1 later)) (sym moved.path.height)
    ∙ ap (λ left. shown ∷ paths_ahead q left later) (sym drawn)

module _ (count height : ℕ) (word : ℕ → ℕ) where
  -- the leaves after some accesses, the last one first: each is determined by the word that its block reads next
  pub record HasLeaves (earlier leaves : List ℕ) : Type 0 where
    pub size : length leaves ≡ count
    pub each : (b : ℕ) → b < count → get_or leaves b 0 ≡ leaf_of height (word (read_word_number count earlier b))

  pub has_next : (earlier leaves : List ℕ) (a : ℕ) → HasLeaves earlier leaves
      → HasLeaves (a ∷ earlier) (set leaves a (leaf_of height (word (count + length earlier))))
  has_next earlier leaves a has = record {
    size = length-set leaves a (leaf_of height (word (count + length earlier))) ∙ has.size;
    each = λ b less.
        let new = leaf_of height (word (count + length earlier)) in
        ⊎_elim
        (λ is.
        let within : b < length leaves = omega (arith, less, has.size) in
        let read : get_or (set leaves a new) b 0 ≡ new =
        ap (λ i. get_or (set leaves i new) b 0) is ∙ get_or-set_same leaves b new 0 within in
        let taken : read_word_number count (a ∷ earlier) b ≡ count + length earlier =
        ap (λ same. cond same (count + length earlier) (read_word_number count earlier b)) (eq-eqb a b is) in
        read ∙ ap (λ k. leaf_of height (word k)) (sym taken))
        (λ other.
        let read : get_or (set leaves a new) b 0 ≡ get_or leaves b 0 =
        get_or-set_other leaves a b new 0 (λ is. other (sym is)) in
        let kept : read_word_number count (a ∷ earlier) b ≡ read_word_number count earlier b =
        ap (λ same. cond same (count + length earlier) (read_word_number count earlier b)) (ne_eqb a b other) in
        read ∙ has.each b less ∙ ap (λ k. leaf_of height (word k)) (sym kept))
        (cases_eq a b);
  }

-- a word that is read was drawn before
pub number_bound : (count : ℕ) (earlier : List ℕ) (b : ℕ) → b < count
    → read_word_number count earlier b < count + length earlier
number_bound count [] b less = omega (arith, less)
number_bound count (last ∷ earlier) b less =
    ⊎_elim
    (λ is.
    let taken : read_word_number count (last ∷ earlier) b ≡ count + length earlier =
    ap (λ same. cond same (count + length earlier) (read_word_number count earlier b)) (eq-eqb last b is) in
    omega (arith, taken))
    (λ other.
    let kept : read_word_number count (last ∷ earlier) b ≡ read_word_number count earlier b =
    ap (λ same. cond same (count + length earlier) (read_word_number count earlier b)) (ne_eqb last b other) in
    omega (arith, kept, number_bound count earlier b less))
    (cases_eq last b)

-- at first each leaf is determined by its block's own word; these words follow `start` others
pub has_first : (count height start : ℕ) (words : Stream) (word : ℕ → ℕ)
    → ((k : ℕ) → k < count → word k ≡ word_at words (start + k))
    → HasLeaves count height word [] (map (leaf_of height) (first_words count (words_left start words)))
has_first count height start words word same = record {
  size = length-map (first_words count (words_left start words)) (leaf_of height)
      ∙ length-first_words count (words_left start words);
  each = λ b less.
      let within : b < length (first_words count (words_left start words)) =
      omega (arith, less, length-first_words count (words_left start words)) in
      get_or-map (leaf_of height) (first_words count (words_left start words)) b 0 0 within
      ∙ ap (leaf_of height)
      (first_words-at count b (words_left start words) less
      ∙ (word_behind start b words ∙ sym (same b less)));
}

module _ (count height : ℕ) (words : Stream) where
  ahead_is : (blocks earlier leaves : List ℕ) (n : ℕ)
      → HasLeaves count height (word_at words) earlier leaves → All (λ b. b < count) blocks
      → count + length earlier + length blocks ≤ n
      → leaves_ahead height leaves (words_left (count + length earlier) words) blocks
      ≡ map (λ number. leaf_of height (get_or (first_words n words) number 0)) (words_read_after count earlier blocks)
  ahead_is [] earlier leaves n has exist fits = refl
  ahead_is (a ∷ blocks) earlier leaves n has exist fits =
      let here : a < count = exist 0 0 (omega arith) in
      let rest : All (λ b. b < count) blocks = λ k d within. exist (suc k) d (omega (arith, within)) in
      let number = read_word_number count earlier a in
      let drawn : number < n = omega (arith, number_bound count earlier a here, fits) in
      let shown : get_or leaves a 0 ≡ leaf_of height (get_or (first_words n words) number 0) =
      has.each a here ∙ ap (leaf_of height) (sym (first_words-at n number words drawn)) in
      let seen = words_left (count + length earlier) words in
      let next = set leaves a (leaf_of height (next_u64 seen).0) in
      let one : suc (count + length earlier) ≡ count + length (a ∷ earlier) = omega arith in
      let left : (next_u64 seen).1 ≡ words_left (count + length (a ∷ earlier)) words =
      sym (words_left-one words (count + length earlier)) ∙ ap (λ k. words_left k words) one in
      ap (λ leaf. leaf ∷ leaves_ahead height next (next_u64 seen).1 blocks) shown
      ∙ ap (λ l. leaf_of height (get_or (first_words n words) number 0) ∷ l)
      (ap (λ stream. leaves_ahead height next stream blocks) left
      ∙ ahead_is blocks (a ∷ earlier) next n (has_next count height (word_at words) earlier leaves a has) rest
      (omega (arith, fits)))

  -- the leaves of the accesses to come are those of the words that they read
  pub ahead-shown : (blocks : List ℕ) → All (λ b. b < count) blocks
      → leaves_ahead height (map (leaf_of height) (first_words count words)) (words_left count words) blocks
      ≡ leaves_shown count height (first_words (count + length blocks) words) blocks
  unfolding words_read
  ahead-shown blocks exist =
      let none : count ≡ count + length {A = ℕ} [] = omega arith in
      let own : (k : ℕ) → k < count → word_at words k ≡ word_at words (0 + k) =
      λ k less. let zero_more : k ≡ 0 + k = omega arith in ap (word_at words) zero_more in
      ap (λ k. leaves_ahead height (map (leaf_of height) (first_words count words)) (words_left k words) blocks) none
      ∙ ahead_is blocks [] (map (leaf_of height) (first_words count words))
      (count + length blocks) (has_first count height 0 words (word_at words) own) exist (omega arith)
