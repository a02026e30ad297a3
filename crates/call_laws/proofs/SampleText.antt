-- The sample's text parses as its tree.
use Rattle.std.proofs.Common.{◌≡◌, inr, ℕ, ◌+◌, ◌^◌, ◌<◌, pos, Bool, true, false, cond, List, [], ◌∷◌, ◌++◌, length, refl, sym, ap, subst, arith, Some, Ok}
use Rattle.std.specs.Prelude.{codes, decimal, ◌==◌, slice_index}
use Rattle.std.specs.List.{list_all}
use Rattle.gr_word.specs.Prelude.{is_name_byte}
use Rattle.gr_word.specs.declared.operations.Op.TheVariants.{Add, Rem}
use Rattle.gr_word.specs.declared.operations.Cmp.TheVariants.{Lt}
use Rattle.gr_word.specs.declared.variables.Label.TheVariants.{Public, Secret}
use Rattle.src_lexer.specs.declared.tokens.Kind.{Kind}
use Rattle.src_lexer.specs.declared.tokens.Token.{Token}
use Rattle.src_lexer.specs.Prelude.{Is, Apart, is_white, letter_run_of, word_run, number_run, sign_of, pair_of, Splits, Ends, Blank, Word, Single, token_at}
use Rattle.src_parser.specs.Prelude.{limits, Writes, Numeral, Named, Indexed, Joined, Compared, Sets, Puts, Repeats, NoMore, Scalar, Array, Sentence, Program, token_kinds, SpellsSource}
use Rattle.src_parser.proofs.LoneTokens.{number_run_of}
use Rattle.call_steps.specs.Prelude.{sample_text}
use Rattle.call_laws.specs.Prelude.{sample_program, sample_turn}
use Rattle.src_lexer.specs.declared.tokens.Kind.TheVariants as kind
use Rattle.src_parser.specs.Grammar as grammar

-- ---- bytes that are these tokens, wherever they begin

record ReadsAt (at : ℕ) (text : List ℕ) (ks : List Kind) : Type 0 where
  pub tokens : List Token
  pub split : Splits at text (Ok tokens)
  pub same : token_kinds tokens ≡ ks

abbrev Reads : List ℕ → List Kind → Type 0
Reads text ks = (at : ℕ) → ReadsAt at text ks

nothing : Reads [] []
nothing at = record { tokens = []; split = Ends; same = refl }

blank : {rest : List ℕ} {ks : List Kind} (b : ℕ) → Reads rest ks → is_white b ≡ true → Reads (b ∷ rest) ks
blank b more white at =
    let r = more (at + 1) in record { tokens = r.tokens; split = Blank white r.split; same = r.same }

run : {rest : List ℕ} {ks : List Kind} (k : Kind) (bytes : List ℕ)
    → Reads rest ks → 0 < length bytes → list_all is_name_byte bytes ≡ true
    → is_name_byte (slice_index rest 0) ≡ false → letter_run_of bytes ≡ Is k → Reads (bytes ++ rest) (k ∷ ks)
run k bytes more some each ends is at =
    let r = more (at + length bytes) in
    record {
      tokens = token_at k at (length bytes) ∷ r.tokens;
      split = Word k bytes some (record { each = each; ends = inr ends }) is r.split;
      same = ap (λ l. k ∷ l) r.same;
    }

sign : {rest : List ℕ} {ks : List Kind} (k : Kind) (b : ℕ)
    → Reads rest ks → is_white b ≡ false → is_name_byte b ≡ false → sign_of b ≡ Some k
    → pair_of b (slice_index rest 0) ≡ Apart → Reads (b ∷ rest) (k ∷ ks)
sign k b more no_white no_word is apart at =
    let r = more (at + 1) in
    record {
      tokens = token_at k at 1 ∷ r.tokens;
      split = Single k b (record { no_white = no_white; no_word = no_word }) is apart r.split;
      same = ap (λ l. k ∷ l) r.same;
    }

-- `[` makes no longer sign with any byte
bracket_apart : (b : ℕ) → pair_of 91 b ≡ Apart
unfolding pair_of
bracket_apart b = by (b == 61) (91 == b)
  where
    by : (x y : Bool) → cond x Apart (cond y Apart Apart) ≡ Apart
    by true y = refl
    by false true = refl
    by false false = refl

number : {rest : List ℕ} {ks : List Kind} (n : ℕ)
    → n < 2 ^ 63 → Reads rest ks → is_name_byte (slice_index rest 0) ≡ false
    → Reads (decimal n ++ rest) (kind.Num (pos n) ∷ ks)
number n small more ends =
    let r = number_run_of n small in run (kind.Num (pos n)) (decimal n) more r.some r.each ends r.is

-- ---- the lines

first_line : {rest : List ℕ} {ks : List Kind} → Reads rest ks
    → Reads (codes "public int i;\n" ++ rest) (kind.Public ∷ kind.Int ∷ kind.Word (codes "i") ∷ kind.Semi ∷ ks)
unfolding sign_of pair_of word_run
first_line more =
    run kind.Public (codes "public") (blank 32 (run kind.Int (codes "int") (blank 32 (run (kind.Word (codes "i"))
    (codes "i") (sign kind.Semi 59 (blank 10 more refl) refl refl refl refl) (omega arith) refl refl refl) refl)
    (omega arith) refl refl refl) refl) (omega arith) refl refl refl

items_line : {rest : List ℕ} {ks : List Kind} (n : ℕ) → n < 2 ^ 63 → Reads rest ks
    → Reads (codes "secret int a[" ++ (decimal n ++ (codes "];\n" ++ rest)))
    (kind.Secret ∷ kind.Int ∷ kind.Word (codes "a") ∷ kind.LBracket ∷ kind.Num (pos n) ∷ kind.RBracket ∷ kind.Semi ∷ ks)
unfolding sign_of pair_of word_run
items_line {rest} {ks} n small more =
    let closed : Reads (codes "];\n" ++ rest) (kind.RBracket ∷ kind.Semi ∷ ks) =
    sign kind.RBracket 93 (sign kind.Semi 59 (blank 10 more refl) refl refl refl refl) refl refl refl refl in
    let listed = number n small closed refl in
    let opened =
    sign kind.LBracket 91 listed refl refl refl (bracket_apart (slice_index (decimal n ++ (codes "];\n" ++ rest)) 0)) in
    run kind.Secret (codes "secret") (blank 32 (run kind.Int (codes "int")
    (blank 32 (run (kind.Word (codes "a")) (codes "a") opened (omega arith) refl refl refl) refl)
    (omega arith) refl refl refl) refl) (omega arith) refl refl refl

counts_line : {rest : List ℕ} {ks : List Kind} → Reads rest ks → Reads (codes "secret int c[16];\n" ++ rest)
    (kind.Secret ∷ kind.Int ∷ kind.Word (codes "c") ∷ kind.LBracket ∷ kind.Num (pos 16)
    ∷ kind.RBracket ∷ kind.Semi ∷ ks)
unfolding sign_of pair_of word_run number_run
counts_line {rest} {ks} more =
    let closed : Reads (codes "16];\n" ++ rest) (kind.Num (pos 16) ∷ kind.RBracket ∷ kind.Semi ∷ ks) =
    run (kind.Num (pos 16)) (codes "16") (sign kind.RBracket 93
    (sign kind.Semi 59 (blank 10 more refl) refl refl refl refl) refl refl refl refl) (omega arith) refl refl refl in
    let opened = sign kind.LBracket 91 closed refl refl refl refl in
    run kind.Secret (codes "secret") (blank 32 (run kind.Int (codes "int")
    (blank 32 (run (kind.Word (codes "c")) (codes "c") opened (omega arith) refl refl refl) refl)
    (omega arith) refl refl refl) refl) (omega arith) refl refl refl

remainder_line : {rest : List ℕ} {ks : List Kind} → Reads rest ks
    → Reads (codes "secret int t;\n" ++ rest) (kind.Secret ∷ kind.Int ∷ kind.Word (codes "t") ∷ kind.Semi ∷ ks)
unfolding sign_of pair_of word_run
remainder_line more =
    run kind.Secret (codes "secret") (blank 32 (run kind.Int (codes "int") (blank 32 (run (kind.Word (codes "t"))
    (codes "t") (sign kind.Semi 59 (blank 10 more refl) refl refl refl refl) (omega arith) refl refl refl) refl)
    (omega arith) refl refl refl) refl) (omega arith) refl refl refl

start_line : {rest : List ℕ} {ks : List Kind} → Reads rest ks
    → Reads (codes "i = 0;\n" ++ rest) (kind.Word (codes "i") ∷ kind.Assign ∷ kind.Num (pos 0) ∷ kind.Semi ∷ ks)
unfolding sign_of pair_of word_run number_run
start_line more =
    run (kind.Word (codes "i")) (codes "i") (blank 32 (sign kind.Assign 61
    (blank 32 (run (kind.Num (pos 0)) (codes "0") (sign kind.Semi 59 (blank 10 more refl) refl refl refl refl)
    (omega arith) refl refl refl) refl) refl refl refl refl) refl) (omega arith) refl refl refl

-- a space, and then more
spaced : {rest : List ℕ} {ks : List Kind} → Reads rest ks → Reads (32 ∷ rest) ks
spaced more = blank 32 more refl

abbrev take_tokens : List Kind → List Kind
take_tokens ks =
    kind.Word (codes "t") ∷ kind.Assign ∷ kind.Word (codes "a") ∷ kind.LBracket ∷ kind.Word (codes "i") ∷ kind.RBracket
    ∷ kind.Percent
    ∷ kind.Num (pos 16) ∷ kind.Semi ∷ ks

take_text : {rest : List ℕ} {ks : List Kind}
    → Reads (32 ∷ rest) ks → Reads (codes "t = a[i] % 16;" ++ (32 ∷ rest)) (take_tokens ks)
unfolding sign_of pair_of word_run number_run
take_text more =
    let value =
    run (kind.Num (pos 16)) (codes "16") (sign kind.Semi 59 more refl refl refl refl) (omega arith) refl refl refl in
    let closed =
    sign kind.RBracket 93 (spaced (sign kind.Percent 37 (spaced value) refl refl refl refl)) refl refl refl refl in
    let item =
    run (kind.Word (codes "a")) (codes "a") (sign kind.LBracket 91
    (run (kind.Word (codes "i")) (codes "i") closed (omega arith) refl refl refl) refl refl refl refl)
    (omega arith) refl refl refl in
    run (kind.Word (codes "t")) (codes "t") (spaced (sign kind.Assign 61 (spaced item) refl refl refl refl))
    (omega arith) refl refl refl

-- `c[t]` before a space
count_text : {rest : List ℕ} {ks : List Kind} → Reads (32 ∷ rest) ks → Reads (codes "c[t]" ++ (32 ∷ rest))
    (kind.Word (codes "c") ∷ kind.LBracket ∷ kind.Word (codes "t") ∷ kind.RBracket ∷ ks)
unfolding sign_of pair_of word_run
count_text more =
    run (kind.Word (codes "c")) (codes "c") (sign kind.LBracket 91 (run (kind.Word (codes "t")) (codes "t")
    (sign kind.RBracket 93 more refl refl refl refl) (omega arith) refl refl refl) refl refl refl refl)
    (omega arith) refl refl refl

-- `+ 1;` before a space
one_more_text : {rest : List ℕ} {ks : List Kind}
    → Reads (32 ∷ rest) ks → Reads (codes "+ 1;" ++ (32 ∷ rest)) (kind.Plus ∷ kind.Num (pos 1) ∷ kind.Semi ∷ ks)
unfolding sign_of pair_of word_run number_run
one_more_text more =
    sign kind.Plus 43 (spaced (run (kind.Num (pos 1)) (codes "1") (sign kind.Semi 59 more refl refl refl refl)
    (omega arith) refl refl refl)) refl refl refl refl

abbrev raise_tokens : List Kind → List Kind
raise_tokens ks =
    kind.Word (codes "c") ∷ kind.LBracket ∷ kind.Word (codes "t") ∷ kind.RBracket ∷ kind.Assign ∷ kind.Word (codes "c")
    ∷ kind.LBracket
    ∷ kind.Word (codes "t") ∷ kind.RBracket ∷ kind.Plus ∷ kind.Num (pos 1) ∷ kind.Semi ∷ ks

raise_text : {rest : List ℕ} {ks : List Kind}
    → Reads (32 ∷ rest) ks → Reads (codes "c[t] = c[t] + 1;" ++ (32 ∷ rest)) (raise_tokens ks)
unfolding sign_of pair_of
raise_text more =
    count_text (spaced (sign kind.Assign 61 (spaced (count_text (spaced (one_more_text more)))) refl refl refl refl))

abbrev step_tokens : List Kind → List Kind
step_tokens ks =
    kind.Word (codes "i") ∷ kind.Assign ∷ kind.Word (codes "i") ∷ kind.Plus ∷ kind.Num (pos 1) ∷ kind.Semi ∷ ks

step_text : {rest : List ℕ} {ks : List Kind}
    → Reads (32 ∷ rest) ks → Reads (codes "i = i + 1;" ++ (32 ∷ rest)) (step_tokens ks)
unfolding sign_of pair_of word_run
step_text more =
    let value = run (kind.Word (codes "i")) (codes "i") (spaced (one_more_text more)) (omega arith) refl refl refl in
    run (kind.Word (codes "i")) (codes "i") (spaced (sign kind.Assign 61 (spaced value) refl refl refl refl))
    (omega arith) refl refl refl

abbrev turn_tokens : List Kind → List Kind
turn_tokens ks = kind.LBrace ∷ take_tokens (raise_tokens (step_tokens (kind.RBrace ∷ ks)))

turn_text : Reads (codes ") { t = a[i] % 16; c[t] = c[t] + 1; i = i + 1; }\n") (kind.RParen ∷ turn_tokens [])
unfolding sign_of pair_of
turn_text =
    let ended = spaced (sign kind.RBrace 125 (blank 10 nothing refl) refl refl refl refl) in
    let body = take_text (spaced (raise_text (spaced (step_text ended)))) in
    sign kind.RParen 41 (spaced (sign kind.LBrace 123 (spaced body) refl refl refl refl)) refl refl refl refl

loop_line : (n : ℕ) → n < 2 ^ 63
    → Reads (codes "while (i < " ++ (decimal n ++ codes ") { t = a[i] % 16; c[t] = c[t] + 1; i = i + 1; }\n"))
    (kind.While ∷ kind.LParen ∷ kind.Word (codes "i") ∷ kind.Lt ∷ kind.Num (pos n) ∷ kind.RParen ∷ turn_tokens [])
unfolding sign_of pair_of word_run
loop_line n small =
    let bound = number n small turn_text refl in
    let guard =
    run (kind.Word (codes "i")) (codes "i") (spaced (sign kind.Lt 60 (spaced bound) refl refl refl refl))
    (omega arith) refl refl refl in
    run kind.While (codes "while") (spaced (sign kind.LParen 40 guard refl refl refl refl)) (omega arith) refl refl refl

-- ---- the whole text

abbrev tokens_of : ℕ → List Kind
tokens_of n =
    kind.Public ∷ kind.Int ∷ kind.Word (codes "i") ∷ kind.Semi
    ∷ kind.Secret ∷ kind.Int ∷ kind.Word (codes "a") ∷ kind.LBracket ∷ kind.Num (pos n) ∷ kind.RBracket ∷ kind.Semi
    ∷ kind.Secret ∷ kind.Int ∷ kind.Word (codes "c") ∷ kind.LBracket ∷ kind.Num (pos 16) ∷ kind.RBracket ∷ kind.Semi
    ∷ kind.Secret ∷ kind.Int ∷ kind.Word (codes "t") ∷ kind.Semi
    ∷ kind.Word (codes "i") ∷ kind.Assign ∷ kind.Num (pos 0) ∷ kind.Semi
    ∷ kind.While ∷ kind.LParen ∷ kind.Word (codes "i") ∷ kind.Lt ∷ kind.Num (pos n) ∷ kind.RParen ∷ turn_tokens []

abbrev first_part : List ℕ
first_part = codes "public int i;\nsecret int a["

abbrev middle_part : List ℕ
middle_part = codes "];\nsecret int c[16];\nsecret int t;\ni = 0;\nwhile (i < "

abbrev last_part : List ℕ
last_part = codes ") { t = a[i] % 16; c[t] = c[t] + 1; i = i + 1; }\n"

grouped : (n : ℕ) → first_part ++ (decimal n ++ (middle_part ++ (decimal n ++ last_part))) ≡ sample_text n
unfolding sample_text
grouped n = refl

read : (n : ℕ)
    → n < 2 ^ 63 → Reads (first_part ++ (decimal n ++ (middle_part ++ (decimal n ++ last_part)))) (tokens_of n)
read n small = first_line (items_line n small (counts_line (remainder_line (start_line (loop_line n small)))))

-- ---- the tokens are the program

turn_written : Writes limits 1 (take_tokens (raise_tokens (step_tokens []))) sample_turn
turn_written =
    Sets (codes "t") (Joined Rem kind.Percent (omega arith) refl (Indexed (codes "a") (omega arith) (Named (codes "i")))
    (Numeral 16)) (omega arith)
    (Puts (codes "c") (Named (codes "t")) (Joined Add kind.Plus (omega arith) refl
    (Indexed (codes "c") (omega arith) (Named (codes "t"))) (Numeral 1)) (omega arith)
    (Sets (codes "i") (Joined Add kind.Plus (omega arith) refl (Named (codes "i")) (Numeral 1))
    (omega arith) grammar.Ends))

sentence : (n : ℕ) → Sentence limits (tokens_of n) (sample_program n)
sentence n =
    Program
    (Scalar Public (codes "i")
    (Array Secret (codes "a") n (Array Secret (codes "c") 16 (Scalar Secret (codes "t") NoMore))))
    (Sets (codes "i") (Numeral 0) (omega arith)
    (Repeats (Compared Lt kind.Lt refl (Named (codes "i")) (Numeral n) (omega arith))
    (omega arith) turn_written grammar.Ends))

-- the sample's text parses as its program
pub sample_spells : (n : ℕ) → n < 2 ^ 63 → SpellsSource (sample_text n) (sample_program n)
sample_spells n small =
    let r = read n small 0 in
    record {
      tokens = r.tokens;
      split = subst (λ text. Splits 0 text (Ok r.tokens)) (grouped n) r.split;
      sentence = subst (λ ks. Sentence limits ks (sample_program n)) (sym r.same) (sentence n);
    }
