-- How often leaves are shown, if all lists of random words are counted: as often on one input as on another that agrees
-- with it on what is public. So random words that are uniform give both inputs the same distribution of leaves. (Path
-- ORAM, Stefanov et al., CCS 2013, section 3.6; here by counting lists, for any number of different words.)
use Rattle.std.specs.Prelude.{◌≡◌, ℕ, zero, suc, ◌+◌, ◌<◌, ◌≤◌, ℤ, List, [], ◌∷◌, length, map, bytes_eq}
use Rattle.std.specs.List.{range_with_len, flat_map, count_by}
use Rattle.lt_isa.specs.Object.{Parts, blocks_of}
use Rattle.lt_isa.specs.Start.{Agree}
use Rattle.path_oram.specs.LeavesAlike.{touched}
use Rattle.path_oram.specs.WordsRead.{leaves_shown}

-- all lists of n words, if a word is one of the numbers below `most`
abbrev pub all_words : (most n : ℕ) → List (List ℕ)
all_words most zero = [] ∷ []
all_words most (suc n) = flat_map (λ words. map (λ word. word ∷ words) (range_with_len 0 most)) (all_words most n)

-- In a bank of `count` blocks, whose tree has this height, a run that accesses these blocks draws `count` words and one
-- more for each access. This is the number of lists of so many words that make it show these leaves.
unfoldable pub how_often : (most count height : ℕ) (blocks leaves : List ℕ) → ℕ
how_often most count height blocks leaves =
    count_by (λ words. bytes_eq (leaves_shown count height words blocks) leaves)
    (all_words most (count + length blocks))

-- Two runs on inputs that agree, both stopped at a cycle: for any leaves, as many lists of random words make the one run
-- show them in an oblivious bank as the other.
abbrev pub ShownAsOften : Parts → Type 0
ShownAsOften o =
    (d e : List (List ℤ)) → Agree o d e → (n b : ℕ) → 2 ≤ b → b < length o.banks → (most height : ℕ) (leaves : List ℕ)
    → how_often most (blocks_of o b) height (touched o d n b) leaves
    ≡ how_often most (blocks_of o b) height (touched o e n b) leaves
