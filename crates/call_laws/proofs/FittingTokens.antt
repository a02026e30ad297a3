-- The tokens of a text have names and numbers in their ranges.
use Rattle.std.proofs.Common.{◌≡◌, ℕ, ◌-◌, ◌^◌, ◌<◌, Bool, true, false, not, ◌==◌, pos, List, [], ◌∷◌, length, take, Option, Some, None, Ok, Err, refl, ap, subst, arith}
use Rattle.std.specs.Prelude.{IsTrue, bytes_eq, codes, if◌then◌else◌, nat_le, nat_lt, slice_index}
use Rattle.std.specs.Char.{is_ascii_digit}
use Rattle.std.specs.List.{list_all, prefix_len}
use Rattle.std.specs.Str.Parse.{digits_value}
use Rattle.std.proofs.lemmas.Bool.{and_from, le-leb, ltb-false}
use Rattle.gr_word.specs.Prelude.{is_name, is_name_byte, IsWord}
use Rattle.src_lexer.specs.declared.tokens.Kind.{Kind}
use Rattle.src_lexer.specs.Prelude.{LetterRun, Is, Big, Long, BytePair, Two, Slashes, Apart, letter_run_of, number_run, pair_of, sign_of, word_run, Lexed, Splits, Ends, Blank, Comment, Word, Double, Single, TooBig, TooLong, Behind, Bad, token_at, with_token}
use Rattle.src_parser.specs.Prelude.{token_kinds}
use Rattle.block_cache_gen.proofs.RangesOfCode.{small-word}
use Rattle.src_lexer.specs.declared.tokens.Kind.TheVariants as kind

abbrev pub KindFits : Kind → Type 0
KindFits (kind.Num z) = IsWord z
KindFits (kind.Word name) = IsTrue (is_name name)
KindFits _ = Unit {0}

abbrev pub AllFit : List Kind → Type 0
AllFit [] = Unit {0}
AllFit (k ∷ ks) = KindFits k × AllFit ks

abbrev OptionFits : Option Kind → Type 0
OptionFits None = Unit {0}
OptionFits (Some k) = KindFits k

abbrev PairFits : BytePair → Type 0
PairFits (Two k) = KindFits k
PairFits Slashes = Unit {0}
PairFits Apart = Unit {0}

abbrev RunFits : LetterRun → Type 0
RunFits (Is k) = KindFits k
RunFits other = Unit {0}

pick : (c : Bool) (k : Kind) (rest : Option Kind) → KindFits k → OptionFits rest
    → OptionFits (if c then Some k else rest)
pick true k rest one other = one
pick false k rest one other = other

pick-pair : (c : Bool) (one other : BytePair) → PairFits one → PairFits other → PairFits (if c then one else other)
pick-pair true one other first second = first
pick-pair false one other first second = second

pick-run : (c : Bool) (one other : LetterRun) → (c ≡ true → RunFits one) → (c ≡ false → RunFits other)
    → RunFits (if c then one else other)
pick-run true one other first second = first refl
pick-run false one other first second = second refl

sign-fits : (b : ℕ) → OptionFits (sign_of b)
unfolding sign_of
sign-fits b =
    pick (b == 40) kind.LParen _ tt (pick (b == 41) kind.RParen _ tt (pick (b == 91) kind.LBracket _ tt (pick (b ==
    93) kind.RBracket _ tt (pick (b == 123) kind.LBrace _ tt (pick (b == 125) kind.RBrace _ tt (pick (b == 59)
    kind.Semi _ tt (pick (b == 61) kind.Assign _ tt (pick (b == 60) kind.Lt _ tt (pick (b == 62) kind.Gt _ tt (pick
    (b == 43) kind.Plus _ tt (pick (b == 45) kind.Minus _ tt (pick (b == 42) kind.Star _ tt (pick (b == 47)
    kind.Slash _ tt (pick (b == 37) kind.Percent _ tt (pick (b == 38) kind.Amp _ tt (pick (b == 124) kind.Bar _ tt
    (pick (b == 94) kind.Caret _ tt tt)))))))))))))))))

pair-fits : (a b : ℕ) → PairFits (pair_of a b)
unfolding pair_of
pair-fits a b =
    pick-pair (b == 61) _ _
    (pick-pair (a == 61) (Two kind.Eq) _ tt
    (pick-pair (a == 33) (Two kind.Ne) _ tt
    (pick-pair (a == 60) (Two kind.Le) _ tt (pick-pair (a == 62) (Two kind.Ge) Apart tt tt))))
    (pick-pair (a == b) _ _
    (pick-pair (a == 60) (Two kind.Shl) _ tt
    (pick-pair (a == 62) (Two kind.Shr) _ tt (pick-pair (a == 47) Slashes Apart tt tt))) tt)

number-fits : (run : List ℕ) → RunFits (number_run run)
unfolding number_run
number-fits run =
    let n = digits_value 10 (take (prefix_len is_ascii_digit run) run) in
    pick-run (nat_lt (2 ^ 63 - 1) n) Big _ (λ e. tt) (λ small.
    pick-run (prefix_len is_ascii_digit run == length run) (Is (kind.Num (pos n))) _
    (λ e. small-word n (omega (arith, ltb-false (2 ^ 63 - 1) n small))) (λ e. tt))

word-fits : (run : List ℕ) → 0 < length run → list_all is_name_byte run ≡ true
    → is_ascii_digit (slice_index run 0) ≡ false → RunFits (word_run run)
unfolding word_run
word-fits run some each letter =
    pick-run (bytes_eq run (codes "public")) (Is kind.Public) _ (λ e. tt) (λ e.
    pick-run (bytes_eq run (codes "secret")) (Is kind.Secret) _ (λ e. tt) (λ e.
    pick-run (bytes_eq run (codes "int")) (Is kind.Int) _ (λ e. tt) (λ e.
    pick-run (bytes_eq run (codes "if")) (Is kind.If) _ (λ e. tt) (λ e.
    pick-run (bytes_eq run (codes "else")) (Is kind.Else) _ (λ e. tt) (λ e.
    pick-run (bytes_eq run (codes "while")) (Is kind.While) _ (λ e. tt) (λ e.
    pick-run (nat_le (length run) 32) (Is (kind.Word run)) Long (λ short.
    and_from (nat_le 1 (length run)) _ (le-leb 1 (length run) some)
    (and_from (nat_le (length run) 32) _ short
    (and_from (not (is_ascii_digit (slice_index run 0))) _ (ap not letter) each))) (λ e. tt)))))))

run-fits : (run : List ℕ) → 0 < length run → list_all is_name_byte run ≡ true → RunFits (letter_run_of run)
run-fits run some each =
    pick-run (is_ascii_digit (slice_index run 0)) (number_run run) (word_run run) (λ e. number-fits run)
    (λ letter. word-fits run some each letter)

abbrev LexedFits : Lexed → Type 0
LexedFits (Ok tokens) = AllFit (token_kinds tokens)
LexedFits (Err e) = Unit {0}

token-first : (k : Kind) (at size : ℕ) (r : Lexed) → KindFits k → LexedFits r
    → LexedFits (with_token (token_at k at size) r)
token-first k at size (Ok tokens) fits more = (fits, more)
token-first k at size (Err e) fits more = tt

pub tokens-fit : {at : ℕ} {text : List ℕ} {r : Lexed} → Splits at text r → LexedFits r
tokens-fit Ends = tt
tokens-fit (Blank w s) = tokens-fit s
tokens-fit (Comment a b line starts is l s) = tokens-fit s
tokens-fit {at} (Word {reading = r} k run some l is s) =
    token-first k at (length run) r (subst RunFits is (run-fits run some l.each)) (tokens-fit s)
tokens-fit {at} (Double {reading = r} k a b starts is s) =
    token-first k at 2 r (subst PairFits is (pair-fits a b)) (tokens-fit s)
tokens-fit {at} (Single {reading = r} k b starts is apart s) =
    token-first k at 1 r (subst OptionFits is (sign-fits b)) (tokens-fit s)
tokens-fit (TooBig run some l is) = tt
tokens-fit (TooLong run some l is) = tt
tokens-fit (Behind run digits some l is) = tt
tokens-fit (Bad starts is apart) = tt
