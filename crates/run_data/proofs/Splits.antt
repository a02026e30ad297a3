-- Pieces that are joined by a byte that is in none of them are the parts at that byte.
use Rattle.std.proofs.Common.{◌≡◌, ℕ, true, false, eqb, List, [], ◌∷◌, ◌++◌, refl, sym, ap, ◌∙◌, append_assoc, eq-eqb}
use Rattle.std.specs.List.{slice_split, join_with_byte, flat_map}
use Rattle.std.proofs.lemmas.List.{append-nil}
use Rattle.std.proofs.lemmas.List.Elements.{All-cons, All-append}
use Rattle.std.proofs.lemmas.List.Splits.{slice_split_at, slice_split_none, join_with_byte-slice_split}
use Rattle.run_data.proofs.Numerals.{Without}

-- the byte is in none of the pieces
abbrev pub NoneHas : ℕ → List (List ℕ) → Type 0
NoneHas c [] = Unit {0}
NoneHas c (piece ∷ pieces) = Without c piece × NoneHas c pieces

pub same_byte : (c : ℕ) → eqb c c ≡ true
same_byte c = eq-eqb c c refl

-- pieces without a byte, joined by it, are split again
pub split-join : (c : ℕ) (piece : List ℕ) (pieces : List (List ℕ))
    → NoneHas c (piece ∷ pieces) → slice_split (λ byte. eqb byte c) (join_with_byte c (piece ∷ pieces)) ≡ piece ∷ pieces
split-join c piece [] none = slice_split_none (λ byte. eqb byte c) piece none.0
split-join c piece (next ∷ pieces) none =
    slice_split_at (λ byte. eqb byte c) piece c (join_with_byte c (next ∷ pieces)) none.0 (same_byte c)
    ∙ ap (λ parts. piece ∷ parts) (split-join c next pieces none.1)

-- a list whose parts are known is those parts, joined
pub joined : (c : ℕ) (bytes : List ℕ) (pieces : List (List ℕ))
    → slice_split (λ byte. eqb byte c) bytes ≡ pieces → bytes ≡ join_with_byte c pieces
joined c bytes pieces is = sym (join_with_byte-slice_split c bytes) ∙ ap (join_with_byte c) is

-- a byte in no piece that isn't the separator isn't in the whole
pub Without-join : (c between : ℕ) (piece : List ℕ) (pieces : List (List ℕ))
    → eqb between c ≡ false → NoneHas c (piece ∷ pieces) → Without c (join_with_byte between (piece ∷ pieces))
Without-join c between piece [] other none = none.0
Without-join c between piece (next ∷ pieces) other none =
    All-append (λ byte. eqb byte c ≡ false) piece (between ∷ join_with_byte between (next ∷ pieces)) none.0
    (All-cons (λ byte. eqb byte c ≡ false) between (join_with_byte between (next ∷ pieces)) other
    (Without-join c between next pieces other none.1))

-- lines, each followed by the byte, are the lines and nothing after the last, joined
pub join-ended : (c : ℕ) (line : List ℕ) (lines : List (List ℕ))
    → join_with_byte c (line ∷ (lines ++ [] ∷ [])) ≡ flat_map (λ l. l ++ c ∷ []) (line ∷ lines)
join-ended c line [] = sym (append-nil (line ++ c ∷ []))
join-ended c line (next ∷ lines) =
    ap (λ text. line ++ c ∷ text) (join-ended c next lines)
    ∙ sym (append_assoc line (c ∷ []) (flat_map (λ l. l ++ c ∷ []) (next ∷ lines)))
