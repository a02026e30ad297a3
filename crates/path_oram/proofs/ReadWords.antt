-- The word that each access reads.
use Rattle.std.proofs.Common.{◌≡◌, ℕ, zero, suc, ◌+◌, ◌-◌, ◌<◌, ◌≢◌, ◌⊎◌, inl, inr, List, [], ◌∷◌, ◌++◌, length, get_or, reverse, take, set, true, false, true≢false, eqb, refl, sym, ap, subst, ◌∙◌, arith, ⊎_elim, append_assoc, get_or-set_same, get_or-set_other, map}
use Rattle.std.proofs.lemmas.Bool.{cases_eq, eqb-true, cases_Bool, eq-eqb}
use Rattle.std.proofs.lemmas.List.{reverse-append, length-reverse, length-take-le, take_more, append-nil, ext_get_or}
use Rattle.std.specs.List.{range_with_len}
use Rattle.std.proofs.lemmas.List.FromFn.{get_or-map-range_with_len, length-map-range_with_len}
use Rattle.path_oram.specs.Prelude.{read_word_number, words_read_after, words_read, ReadsWord, EachReads}

-- the blocks accessed before, the last one first
abbrev pub IsBefore : List ℕ → List ℕ → Type 0
IsBefore all earlier = (j : ℕ) → j < length earlier → get_or earlier (length earlier - 1 - j) 0 ≡ get_or all j 0

pub record NotThere (earlier : List ℕ) (block number : ℕ) : Type 0 where
  pub own : number ≡ block
  pub never : (k : ℕ) → k < length earlier → get_or earlier k 0 ≢ block

pub record FirstThere (count : ℕ) (earlier : List ℕ) (block number k : ℕ) : Type 0 where
  pub within : k < length earlier
  pub same : get_or earlier k 0 ≡ block
  pub drawn : number ≡ count + (length earlier - 1 - k)
  pub never : (l : ℕ) → l < k → get_or earlier l 0 ≢ block

abbrev pub Means : ℕ → List ℕ → ℕ → ℕ → Type 0
Means count earlier block number = NotThere earlier block number ⊎ ((k : ℕ) × FirstThere count earlier block number k)

-- one more access before, to another block
pub not_before : (x : ℕ) (earlier : List ℕ) (block n : ℕ) → x ≢ block → ((k : ℕ) → k < n → get_or earlier k 0 ≢ block)
    → (k : ℕ) → k < suc n → get_or (x ∷ earlier) k 0 ≢ block
not_before x earlier block n other never zero less = other
not_before x earlier block n other never (suc k) less = never k (omega arith)

pub means_later : (count x : ℕ) (earlier : List ℕ) (block number : ℕ) → x ≢ block → Means count earlier block number
    → Means count (x ∷ earlier) block number
means_later count x earlier block number other (inl none) =
    inl (record { own = none.own; never = not_before x earlier block (length earlier) other none.never })
means_later count x earlier block number other (inr found) =
    let sum : length earlier - 1 - found.0 ≡ suc (length earlier) - 1 - suc found.0 = omega arith in
    inr (
      suc found.0,
      record {
        within = omega (arith, found.1.within);
        same = found.1.same;
        drawn = found.1.drawn ∙ ap (λ n. count + n) sum;
        never = not_before x earlier block found.0 other found.1.never;
      },
    )

pub word_means : (count : ℕ) (earlier : List ℕ) (block : ℕ)
    → Means count earlier block (read_word_number count earlier block)
word_means count [] block = inl (record { own = refl; never = λ k less. absurd (omega arith) })
word_means count (last ∷ earlier) block =
    ⊎_elim
    (λ here.
    let number : read_word_number count (last ∷ earlier) block ≡ count + length earlier = rw here refl in
    let sum : length earlier ≡ suc (length earlier) - 1 - 0 = omega arith in
    inr (
      0,
      record {
        within = omega arith;
        same = eqb-true last block here;
        drawn = number ∙ ap (λ n. count + n) sum;
        never = λ l less. absurd (omega arith);
      },
    ))
    (λ elsewhere.
    let number : read_word_number count (last ∷ earlier) block
    ≡ read_word_number count earlier block = rw elsewhere refl in
    let other : last ≢ block = λ e. true≢false (sym (eq-eqb last block e) ∙ elsewhere) in
    subst (Means count (last ∷ earlier) block) (sym number)
    (means_later count last earlier block (read_word_number count earlier block) other
    (word_means count earlier block)))
    (cases_Bool (eqb last block))

-- the same, over the whole run
pub means_reads :
    (count : ℕ) (all earlier : List ℕ) (block number : ℕ) → IsBefore all earlier → block ≡ get_or all
    (length earlier) 0 → Means count earlier block number → ReadsWord count all (length earlier) number
means_reads count all earlier block number before is (inl none) =
    inl (record {
      own = none.own ∙ is;
      never = λ j less same. none.never (length earlier - 1 - j) (omega arith) (before j less ∙ same ∙ sym is);
    })
means_reads count all earlier block number before is (inr found) =
    let k = found.0 in
    let n = length earlier in
    let within : k < n = found.1.within in
    let back : n - 1 - (n - 1 - k) ≡ k = omega arith in
    inr (
      n - 1 - k,
      record {
        drawn = found.1.drawn;
        earlier = omega arith;
        same = sym (before (n - 1 - k) (omega arith)) ∙ ap (λ i. get_or earlier i 0) back ∙ found.1.same ∙ is;
        never = λ j after less same. found.1.never (n - 1 - j) (omega arith) (before j less ∙ same ∙ sym is);
      },
    )

-- one more access
pub before_more : (all earlier : List ℕ) (block : ℕ) → IsBefore all earlier → block ≡ get_or all (length earlier) 0
    → IsBefore all (block ∷ earlier)
before_more all earlier block before is j less =
    let n = length earlier in
    ⊎_elim
    (λ same.
    let first : suc n - 1 - j ≡ 0 = omega arith in rw first (is ∙ ap (λ i. get_or all i 0) (sym same)))
    (λ other.
    let later : suc n - 1 - j ≡ suc (n - 1 - j) = omega arith in rw later (before j (omega arith)))
    (cases_eq j n)

pub reads_each :
    (count : ℕ) (all earlier rest : List ℕ) → IsBefore all earlier
    → ((k : ℕ) → k < length rest → get_or rest k 0 ≡ get_or all (length earlier + k) 0)
    → (k : ℕ) → k < length rest
    → ReadsWord count all (length earlier + k) (get_or (words_read_after count earlier rest) k 0)
reads_each count all earlier [] before rests k less = absurd (omega arith)
reads_each count all earlier (block ∷ rest) before rests zero less =
    let here : length earlier ≡ length earlier + zero = omega arith in
    let is : block ≡ get_or all (length earlier) 0 = rests 0 (omega arith) ∙ ap (λ i. get_or all i 0) (sym here) in
    subst (λ i. ReadsWord count all i (read_word_number count earlier block)) here
    (means_reads count all earlier block (read_word_number count earlier block) before is
    (word_means count earlier block))
reads_each count all earlier (block ∷ rest) before rests (suc k) less =
    let here : length earlier ≡ length earlier + 0 = omega arith in
    let is : block ≡ get_or all (length earlier) 0 = rests 0 (omega arith) ∙ ap (λ i. get_or all i 0) (sym here) in
    let next : suc (length earlier) + k ≡ length earlier + suc k = omega arith in
    subst (λ i. ReadsWord count all i (get_or (words_read_after count (block ∷ earlier) rest) k 0)) next
    (reads_each count all (block ∷ earlier) rest (before_more all earlier block before is)
    (λ l small. let one : length earlier + suc l ≡ suc (length earlier) + l = omega arith in rests (suc l) (omega arith)
    ∙ ap (λ i. get_or all i 0) one)
    k (omega arith))

-- each access reads its word
pub each_reads : EachReads
unfolding words_read
each_reads count blocks i less =
    let here : 0 + i ≡ i = omega arith in
    subst (λ k. ReadsWord count blocks k (get_or (words_read_after count [] blocks) i 0)) here
    (reads_each count blocks [] blocks (λ j none. absurd (omega arith))
    (λ k small. let same : k ≡ 0 + k = omega arith in ap (λ n. get_or blocks n 0) same) i less)

-- an access at the end of a run
pub read_after_more :
    (count : ℕ) (earlier blocks : List ℕ) (block : ℕ)
    → words_read_after count earlier (blocks ++ block ∷ []) ≡ words_read_after count earlier blocks
    ++ read_word_number count
    (reverse blocks ++ earlier) block ∷ []
read_after_more count earlier [] block = refl
read_after_more count earlier (x ∷ blocks) block =
    let turned : reverse blocks ++ (x ∷ earlier) ≡ reverse (x ∷ blocks) ++ earlier =
    sym (append_assoc (reverse blocks) (x ∷ []) earlier)
    ∙ ap (λ l. l ++ earlier) (sym (reverse-append (x ∷ []) blocks)) in
    ap (λ l. read_word_number count earlier x ∷ l)
    (subst (λ e. words_read_after count (x ∷ earlier) (blocks ++ block ∷ []) ≡ words_read_after count
    (x ∷ earlier) blocks ++ read_word_number count e block ∷ []) turned
    (read_after_more count (x ∷ earlier) blocks block))

-- a run without accesses reads no words
pub read_none : (count : ℕ) → words_read count [] ≡ []
unfolding words_read
read_none count = refl

-- one more access reads one more word
pub read_more :
    (count : ℕ) (blocks : List ℕ) (i block : ℕ) → i < length blocks → block ≡ get_or blocks i block
    → words_read count (take (i + 1) blocks) ≡ words_read count (take i blocks) ++ read_word_number count
    (reverse (take i blocks)) block ∷ []
unfolding words_read
read_more count blocks i block less is =
    let more : take (i + 1) blocks ≡ take i blocks ++ block ∷ [] = take_more blocks i block less
    ∙ ap (λ b. take i blocks ++ b ∷ []) (sym is) in
    rw more
    (read_after_more count [] (take i blocks) block
    ∙ ap (λ e. words_read_after count [] (take i blocks) ++ read_word_number count e block ∷ [])
    (append-nil (reverse (take i blocks))))

-- a table of the word that each block would read next
abbrev pub IsTable : ℕ → List ℕ → List ℕ → Type 0
IsTable count earlier last = (block : ℕ) → block < count → get_or last block 0 ≡ read_word_number count earlier block

-- the table after one more access
pub table_more :
    (count : ℕ) (blocks last : List ℕ)
    (i block : ℕ) → i < length blocks → block ≡ get_or blocks i block → block < count → length last ≡ count
    → IsTable count (reverse (take i blocks)) last
    → IsTable count (reverse (take (i + 1) blocks)) (set last block (count + i))
table_more count blocks last i block less is exists size table other small =
    let more : take (i + 1) blocks ≡ take i blocks ++ block ∷ [] = take_more blocks i block less
    ∙ ap (λ b. take i blocks ++ b ∷ []) (sym is) in
    let turned : reverse (take (i + 1) blocks) ≡ block ∷ reverse (take i blocks) = ap reverse more
    ∙ reverse-append (take i blocks) (block ∷ []) in
    let long : length (reverse (take i blocks)) ≡ i = length-reverse (take i blocks)
    ∙ length-take-le i blocks (omega arith) in
    rw turned
    (⊎_elim
    (λ same.
    let hit : eqb block other ≡ true = eq-eqb block other (sym same) in
    rw (hit, long) (ap (λ k. get_or (set last block (count + i)) k 0) same
    ∙ get_or-set_same last block (count + i) 0 (omega arith)))
    (λ differs.
    let isnt : eqb block other ≡ false = ⊎_elim (λ e. absurd (differs (sym (eqb-true block other e)))) (λ f. f)
    (cases_Bool (eqb block other)) in
    rw isnt (get_or-set_other last block other (count + i) 0 differs ∙ table other small))
    (cases_eq other block))

-- the table is the list of the next words
pub table_all : (count : ℕ) (earlier last : List ℕ) → length last ≡ count → IsTable count earlier last
    → last ≡ map (read_word_number count earlier) (range_with_len 0 count)
table_all count earlier last size table =
    let f : ℕ → ℕ = read_word_number count earlier in
    ext_get_or 0 last (map f (range_with_len 0 count)) (size ∙ sym (length-map-range_with_len f 0 count))
    (λ i less.
    let small : i < count = omega (arith, size, less) in
    let sum : 0 + i ≡ i = omega arith in
    table i small ∙ sym (get_or-map-range_with_len f 0 count i i 0 small sum))
