-- The lines of levels after a text.
use Rattle.std.proofs.Common.{◌≡◌, ℕ, ◌+◌, List, [], ◌∷◌, ◌++◌, length, Option, sym, ap, ◌∙◌, arith, append_assoc}
use Rattle.std.proofs.lemmas.List.{append-nil}
use Rattle.run_data.specs.Prelude.{levels_behind, levels_line}

-- levels are appended to the text so far
pub behind-text : (text : List ℕ) (b : ℕ) (levels : List (List (Option ℕ)))
    → levels_behind text b levels ≡ text ++ levels_behind [] b levels
behind-text text b [] = sym (append-nil text)
behind-text text b (first ∷ levels) =
    behind-text (text ++ levels_line b first) (b + 1) levels
    ∙ (append_assoc text (levels_line b first) (levels_behind [] (b + 1) levels)
    ∙ ap (λ rest. text ++ rest) (sym (behind-text (levels_line b first) (b + 1) levels)))

-- the first lines, and then the others
pub behind-parts : (text : List ℕ) (b : ℕ) (levels more : List (List (Option ℕ)))
    → levels_behind text b (levels ++ more) ≡ levels_behind (levels_behind text b levels) (b + length levels) more
behind-parts text b [] more = let none : b ≡ b + 0 = omega arith in ap (λ n. levels_behind text n more) none
behind-parts text b (first ∷ levels) more =
    let next : b + 1 + length levels ≡ b + length (first ∷ levels) = omega arith in
    behind-parts (text ++ levels_line b first) (b + 1) levels more
    ∙ ap (λ n. levels_behind (levels_behind (text ++ levels_line b first) (b + 1) levels) n more) next
