-- For the proofs and for private clauses only: a number that is computed from a name's bytes. It distinguishes most
-- names before they are compared byte by byte, and doesn't affect any result. (This project's profile.)
use Rattle.std.specs.Prelude.{ℕ, ◌+◌, ◌*◌, ◌%◌, ◌^◌, [], ◌∷◌}
use Rattle.lt_assembler.specs.Words.{Word}

-- the mark of some bytes, with one more byte, in 64 bits
unfoldable pub mixed : ℕ → ℕ → ℕ
mixed mark byte = (mark * 31 % 2 ^ 64 + byte) % 2 ^ 64

abbrev pub mark_from : ℕ → Word → ℕ
mark_from mark [] = mark
mark_from mark (byte ∷ name) = mark_from (mixed mark byte) name

abbrev pub mark_of : Word → ℕ
mark_of name = mark_from 0 name
