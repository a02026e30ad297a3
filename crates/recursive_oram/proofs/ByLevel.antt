-- What each level shows.
use Rattle.std.proofs.Common.{◌≡◌, ℕ, suc, ◌+◌, List, [], ◌∷◌, ◌++◌, length, map, get_or, refl, sym, ap, ap₂, ◌∙◌, arith, length-append}
use Rattle.std.proofs.Math.ListN.{get_or-append}
use Rattle.std.proofs.Math.Seq.{get_or-append_seam}
use Rattle.path_oram.specs.Prelude.{leaf_of, read_word_number}
use Rattle.recursive_oram.specs.Prelude.{ShowsByLevel, block_on, block_above, Size, leaves_read, number_among_all, words_made}

read-count : (made levels start : ℕ) (words : List ℕ) (sizes : List Size) (earlier : List ℕ) (block : ℕ)
    → length (leaves_read made levels start words sizes earlier block) ≡ length sizes
read-count made levels start words [] earlier block = refl
read-count made levels start words (size ∷ above) earlier block =
    let front = leaves_read made levels (start + size.count) words above (map block_above earlier)
    (block_above block) in
    let own = leaf_of size.height (get_or words (number_among_all made levels start size.count (length above)
    (read_word_number size.count earlier block)) 0) in
    omega (
      arith,
      length-append front (own ∷ []),
      read-count made levels (start + size.count) words above (map block_above earlier) (block_above block),
    )

same : (blocks : List ℕ) → map (block_on 0) blocks ≡ blocks
same [] = refl
same (b ∷ blocks) = ap (λ l. b ∷ l) (same blocks)

next : (level : ℕ) (blocks : List ℕ) → map (block_on level) (map block_above blocks) ≡ map (block_on (suc level)) blocks
next level [] = refl
next level (b ∷ blocks) = ap (λ l. block_on (suc level) b ∷ l) (next level blocks)

by-level : (made levels start : ℕ) (words : List ℕ) (below above : List Size) (size : Size) (earlier : List ℕ)
    (block : ℕ)
    → get_or (leaves_read made levels start words (below ++ size ∷ above) earlier block) (length above) 0
    ≡ leaf_of size.height (get_or words (number_among_all made levels (start + words_made below) size.count
    (length above)
    (read_word_number size.count (map (block_on (length below)) earlier) (block_on (length below) block))) 0)
by-level made levels start words [] above size earlier block =
    let front = leaves_read made levels (start + size.count) words above (map block_above earlier)
    (block_above block) in
    let shown = λ (n : ℕ) (l : List ℕ). leaf_of size.height (get_or words (number_among_all made levels n size.count
    (length above) (read_word_number size.count l block)) 0) in
    let count = read-count made levels (start + size.count) words above (map block_above earlier) (block_above block) in
    let none : start ≡ start + 0 = omega arith in
    ap (λ k. get_or (front ++ shown start earlier ∷ []) k 0) (sym count)
    ∙ (get_or-append_seam front (shown start earlier) [] 0 ∙ ap₂ shown none (sym (same earlier)))
by-level made levels start words (first ∷ below) above size earlier block =
    let sizes = below ++ size ∷ above in
    let front = leaves_read made levels (start + first.count) words sizes (map block_above earlier)
    (block_above block) in
    let own = leaf_of first.height (get_or words (number_among_all made levels start first.count (length sizes)
    (read_word_number first.count earlier block)) 0) in
    let long = read-count made levels (start + first.count) words sizes (map block_above earlier) (block_above block) in
    let behind : start + first.count + words_made below ≡ start + (first.count + words_made below) = omega arith in
    get_or-append front (own ∷ []) 0 (length above)
    (omega (arith, long, length-append below (size ∷ above)))
    ∙ (by-level made levels (start + first.count) words below above size (map block_above earlier) (block_above block)
    ∙ ap₂ (λ n l. leaf_of size.height (get_or words (number_among_all made levels n size.count (length above)
    (read_word_number size.count l (block_on (suc (length below)) block))) 0)) behind (next (length below) earlier))

pub shows_by_level : ShowsByLevel
shows_by_level made levels words below above size earlier block =
    let none : 0 + words_made below ≡ words_made below = omega arith in
    by-level made levels 0 words below above size earlier block
    ∙ ap (λ n. leaf_of size.height (get_or words (number_among_all made levels n size.count (length above)
    (read_word_number size.count (map (block_on (length below)) earlier) (block_on (length below) block))) 0)) none
