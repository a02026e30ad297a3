-- A text without a space is its first word.
use Rattle.std.proofs.Common.{◌≡◌, ◌≤◌, ℕ, ◌==◌, List, length, sym, arith}
use Rattle.std.specs.List.{position_or_len}
use Rattle.std.proofs.lemmas.List.{take_all}
use Rattle.ghost_front.specs.Prelude.{first_word}

pub only_word : (text : List ℕ) → position_or_len (λ byte. byte == 32) text ≡ length text → text ≡ first_word text
only_word text none =
    let all : length text ≤ position_or_len (λ byte. byte == 32) text = omega (arith, none) in sym (take_all _ text all)
