-- Rearranged words show the same leaves.
use Rattle.std.proofs.Common.{◌≡◌, ℕ, suc, ◌+◌, ◌^◌, ◌%◌, ◌<◌, List, [], ◌∷◌, length, map, get_or, refl, sym, ap, ◌∙◌, arith}
use Rattle.std.proofs.Math.ListN.{get_or-append}
use Rattle.std.proofs.lemmas.List.{ext_get_or, get_or-map, length-map}
use Rattle.path_oram.specs.Prelude.{words_read_after, words_read, IsWordOrder, ShowsTheSame}
use Rattle.path_oram.proofs.Paired.{order_below, order_length}

pub read_after_length : (count : ℕ) (earlier blocks : List ℕ)
    → length (words_read_after count earlier blocks) ≡ length blocks
read_after_length count earlier [] = refl
read_after_length count earlier (block ∷ blocks) = ap suc (read_after_length count (block ∷ earlier) blocks)

pub read_length : (count : ℕ) (blocks : List ℕ) → length (words_read count blocks) ≡ length blocks
unfolding words_read
read_length count blocks = read_after_length count [] blocks

-- the order begins with the words that are read
pub order_read : (count : ℕ) (blocks order : List ℕ) → IsWordOrder count blocks order → (i : ℕ) → i < length blocks
    → get_or order i 0 ≡ get_or (words_read count blocks) i 0
order_read count blocks order is i less =
    let within : i < length (words_read count blocks) = omega (arith, read_length count blocks) in
    ap (λ l. get_or l i 0) is.parts ∙ get_or-append (words_read count blocks) is.left 0 i within

-- rearranged words show the same leaves
pub shows_the_same : ShowsTheSame
shows_the_same count height first second rearranged long pairs words others moved =
    let one : ℕ → ℕ = λ n. get_or words n 0 % 2 ^ height in
    let two : ℕ → ℕ = λ n. get_or others n 0 % 2 ^ height in
    let read = words_read count first in
    let other = words_read count second in
    let first_size = read_length count first in
    let second_size = read_length count second in
    ext_get_or 0 (map one read) (map two other)
    (length-map read one ∙ first_size ∙ sym long ∙ sym second_size ∙ sym (length-map other two))
    (λ i less.
    let small : i < length first = omega (arith, less, length-map read one, first_size) in
    let in_read : i < length read = omega (arith, small, first_size) in
    let in_other : i < length other = omega (arith, small, second_size, long) in
    let in_second : i < length second = omega (arith, small, long) in
    let whole : i < count + length first = omega (arith, small) in
    let in_from : i < length pairs.from = omega
    (arith, whole, order_length (count + length first) pairs.from pairs.from_first.once) in
    let below : get_or pairs.from i 0 < count + length first = order_below
    (count + length first) pairs.from pairs.from_first.once i in_from in
    let here : get_or pairs.from i 0 ≡ get_or read i 0 = order_read count first pairs.from pairs.from_first i small in
    let there : get_or pairs.to i 0 ≡ get_or other i 0 = order_read count second pairs.to pairs.to_second i in_second in
    let word : get_or words (get_or read i 0) 0 ≡ get_or others (get_or other i 0) 0 =
    ap (λ n. get_or words n 0) (sym here)
    ∙ sym (moved (get_or pairs.from i 0) below)
    ∙ ap (λ n. get_or others n 0) (pairs.pairs i whole ∙ there) in
    get_or-map one read i 0 0 in_read ∙ ap (λ w. w % 2 ^ height) word ∙ sym (get_or-map two other i 0 0 in_other))
