-- The pieces of a source text, and how they are written (this project's profile).
use Rattle.std.specs.Prelude.{ℕ, ◌^◌, ◌-◌, nat_le, nat_lt, Bool, true, false, ◌==◌, ◌||◌, if◌then◌else◌, pos, List, length, take, slice_index, codes, bytes_eq, Option, Some, None}
use Rattle.std.specs.List.{prefix_len}
use Rattle.std.specs.Char.{is_ascii_digit}
use Rattle.std.specs.Str.Parse.{digits_value}
use Rattle.src_lexer.specs.declared.tokens.Kind.{Kind}
use Rattle.src_lexer.specs.declared.tokens.Kind.TheVariants as kind

-- space, tab, line feed and carriage return
abbrev pub is_white : ℕ → Bool
is_white b = (b == 32) || ((b == 9) || ((b == 10) || (b == 13)))

-- a byte that doesn't end a line
abbrev pub is_in_line : ℕ → Bool
is_in_line b = if b == 10 then false else true

-- a run of letters, digits and `_`, classified: a token; a number that is too big; a name that is too long; or a number
-- of this many digits with a letter or `_` directly after it
pub data LetterRun : Type 0 where
  Is : (k : Kind) → LetterRun
  Big : LetterRun
  Long : LetterRun
  Mixed : (digits : ℕ) → LetterRun

-- a run that starts with a digit: it consists of digits, which may begin with zeros, and its value is at most 2^63 - 1
-- Rule: source/number.
unfoldable pub number_run : List ℕ → LetterRun
number_run run =
    if nat_lt (2 ^ 63 - 1) (digits_value 10 (take (prefix_len is_ascii_digit run) run)) then Big
    else (if prefix_len is_ascii_digit run == length run
    then Is (kind.Num (pos (digits_value 10 (take (prefix_len is_ascii_digit run) run))))
    else Mixed (prefix_len is_ascii_digit run))

-- any other run: a keyword, or a name of at most 32 bytes
-- Rule: source/name.
unfoldable pub word_run : List ℕ → LetterRun
word_run run =
    if bytes_eq run (codes "public") then Is kind.Public
    else (if bytes_eq run (codes "secret") then Is kind.Secret
    else (if bytes_eq run (codes "int") then Is kind.Int
    else (if bytes_eq run (codes "if") then Is kind.If
    else (if bytes_eq run (codes "else") then Is kind.Else
    else (if bytes_eq run (codes "while") then Is kind.While
    else (if nat_le (length run) 32 then Is (kind.Word run) else Long))))))

abbrev pub letter_run_of : List ℕ → LetterRun
letter_run_of run = if is_ascii_digit (slice_index run 0) then number_run run else word_run run

-- the signs of one byte
unfoldable pub sign_of : ℕ → Option Kind
sign_of b =
    if b == 40 then Some kind.LParen else (if b == 41 then Some kind.RParen
    else (if b == 91 then Some kind.LBracket else (if b == 93 then Some kind.RBracket
    else (if b == 123 then Some kind.LBrace else (if b == 125 then Some kind.RBrace
    else (if b == 59 then Some kind.Semi else (if b == 61 then Some kind.Assign
    else (if b == 60 then Some kind.Lt else (if b == 62 then Some kind.Gt
    else (if b == 43 then Some kind.Plus else (if b == 45 then Some kind.Minus
    else (if b == 42 then Some kind.Star else (if b == 47 then Some kind.Slash
    else (if b == 37 then Some kind.Percent else (if b == 38 then Some kind.Amp
    else (if b == 124 then Some kind.Bar else (if b == 94 then Some kind.Caret else None)))))))))))))))))

-- two bytes, classified: == != <= >= << >>, or `//`, which starts a comment
pub data BytePair : Type 0 where
  Two : (k : Kind) → BytePair
  Slashes : BytePair
  Apart : BytePair

unfoldable pub pair_of : ℕ → ℕ → BytePair
pair_of a b =
    if b == 61 then
    (if a == 61 then Two kind.Eq
    else (if a == 33 then Two kind.Ne else (if a == 60 then Two kind.Le else (if a == 62 then Two kind.Ge else Apart))))
    else (if a == b
    then (if a == 60 then Two kind.Shl else (if a == 62 then Two kind.Shr else (if a == 47 then Slashes else Apart)))
    else Apart)
