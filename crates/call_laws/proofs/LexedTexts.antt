-- Each text splits into tokens, or has a first error.
use Rattle.std.proofs.Common.{ℕ, zero, suc, ◌+◌, ◌<◌, ◌≤◌, List, [], ◌∷◌, length, drop, length-drop, Ok, Err, arith}
use Rattle.src_lexer.specs.declared.tokens.Token.{Token}
use Rattle.src_lexer.specs.declared.errors.LexFault.{LexFault}
use Rattle.src_lexer.specs.Prelude.{Splits, Ends, token_at, Found, Skipped, Piece, Faulty, found_in}
use Rattle.src_lexer.proofs.FirstPieces.{Allows, found_allows}

-- how a text splits
pub data Reading (at : ℕ) (text : List ℕ) : Type 0 where
  Reads : (tokens : List Token) → Splits at text (Ok tokens) → Reading at text
  Fails : (e : LexFault) → Splits at text (Err e) → Reading at text

-- from the first piece of a text and the reading of the rest
read-from : (at : ℕ) (text : List ℕ) (f : Found) → Allows at text f
    → ((n : ℕ) → 0 < n → n ≤ length text → Reading (at + n) (drop n text)) → Reading at text
read-from at text (Skipped n) allowed more = by (more n allowed.0 allowed.1)
  where
    by : Reading (at + n) (drop n text) → Reading at text
    by (Reads tokens s) = Reads tokens (allowed.2 (Ok tokens) s)
    by (Fails e s) = Fails e (allowed.2 (Err e) s)
read-from at text (Piece k n) allowed more = by (more n allowed.0 allowed.1)
  where
    by : Reading (at + n) (drop n text) → Reading at text
    by (Reads tokens s) = Reads (token_at k at n ∷ tokens) (allowed.2 (Ok tokens) s)
    by (Fails e s) = Fails e (allowed.2 (Err e) s)
read-from at text (Faulty e) allowed more = Fails e allowed

read-within : (fuel at : ℕ) (text : List ℕ) → length text ≤ fuel → Reading at text
read-within fuel at [] few = Reads [] Ends
read-within zero at (b ∷ rest) few = absurd (omega (arith, few))
read-within (suc fuel) at (b ∷ rest) few =
    read-from at (b ∷ rest) (found_in at (b ∷ rest)) (found_allows at b rest)
    (λ n some within. read-within fuel (at + n) (drop n (b ∷ rest))
    (omega (arith, few, some, within, length-drop n (b ∷ rest))))

pub reading : (text : List ℕ) → Reading 0 text
reading text = read-within (length text) 0 text (omega arith)
