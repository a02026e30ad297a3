-- The tokens of canonical texts: signs, keywords, names and numbers before white space.
use Rattle.std.proofs.Common.{◌≡◌, ◌≢◌, inl, inr, ℕ, ◌^◌, ◌<◌, pos, true, false, List, [], ◌∷◌, length, refl, sym, ap, ◌∙◌, arith, Some, take, ◌-◌}
use Rattle.std.specs.Prelude.{codes, decimal, not, nat_le, slice_index, ◌==◌, nat_lt, if◌then◌else◌}
use Rattle.std.specs.List.{list_all, prefix_len}
use Rattle.std.specs.Char.{is_ascii_digit}
use Rattle.std.proofs.lemmas.List.{append-nil, take_all}
use Rattle.std.specs.Str.Parse.{digits_value}
use Rattle.std.proofs.lemmas.Bool.{and_parts, and_from}
use Rattle.std.proofs.lemmas.Bool.Decides.{nat_tests}
use Rattle.std.proofs.lemmas.Fmt.{decimal_nonempty}
use Rattle.gr_base.proofs.Digits.{decimal_digits, numeral_value}
use Rattle.gr_base.proofs.ListTests.{list_all-get_or}
use Rattle.src_lexer.proofs.Longest.{longest_prefix}
use Rattle.gr_word.specs.Prelude.{is_name_byte}
use Rattle.gr_word.specs.declared.operations.Op.{Op}
use Rattle.gr_word.specs.declared.operations.Cmp.{Cmp}
use Rattle.gr_word.specs.declared.variables.Label.{Label}
use Rattle.src_lexer.specs.declared.tokens.Kind.{Kind}
use Rattle.src_lexer.specs.Prelude.{LetterRun, Is, Big, Mixed, letter_run_of, number_run, word_run, sign_of, pair_of}
use Rattle.src_tree.specs.Prelude.{spaced, line_of_token, op_sign, cmp_sign, label_keyword}
use Rattle.src_parser.specs.Prelude.{operator_of, comparison_of, keyword_of, IsFree}
use Rattle.src_parser.proofs.Rendered.{Renders, behind_white, IsAlone, run_alone, single_alone, double_alone}
use Rattle.gr_word.specs.declared.operations.Op.TheVariants as op
use Rattle.gr_word.specs.declared.operations.Cmp.TheVariants as cmp
use Rattle.gr_word.specs.declared.variables.Label.TheVariants as label
use Rattle.src_lexer.specs.declared.tokens.Kind.TheVariants as kind

-- a token and a space
pub space : {bytes : List ℕ} {k : Kind} → IsAlone bytes k → Renders (spaced bytes) (k ∷ [])
space a = behind_white 32 (inl refl) a

-- a token and a line feed
pub line : {bytes : List ℕ} {k : Kind} → IsAlone bytes k → Renders (line_of_token bytes) (k ∷ [])
line a = behind_white 10 (inr refl) a

-- the bytes of each sign and keyword, before white space, are its token
pub record LoneTokens : Type 0 where
  pub lparen : IsAlone (codes "(") kind.LParen
  pub rparen : IsAlone (codes ")") kind.RParen
  pub lbracket : IsAlone (codes "[") kind.LBracket
  pub rbracket : IsAlone (codes "]") kind.RBracket
  pub lbrace : IsAlone (codes "{") kind.LBrace
  pub rbrace : IsAlone (codes "}") kind.RBrace
  pub semi : IsAlone (codes ";") kind.Semi
  pub assign : IsAlone (codes "=") kind.Assign
  pub if_word : IsAlone (codes "if") kind.If
  pub else_word : IsAlone (codes "else") kind.Else
  pub while_word : IsAlone (codes "while") kind.While
  pub int_word : IsAlone (codes "int") kind.Int

-- the signs and keywords
pub lone : LoneTokens
unfolding sign_of word_run
lone = record {
  lparen = single_alone 40 kind.LParen refl refl refl;
  rparen = single_alone 41 kind.RParen refl refl refl;
  lbracket = single_alone 91 kind.LBracket refl refl refl;
  rbracket = single_alone 93 kind.RBracket refl refl refl;
  lbrace = single_alone 123 kind.LBrace refl refl refl;
  rbrace = single_alone 125 kind.RBrace refl refl refl;
  semi = single_alone 59 kind.Semi refl refl refl;
  assign = single_alone 61 kind.Assign refl refl refl;
  if_word = run_alone (codes "if") kind.If (omega arith) refl refl;
  else_word = run_alone (codes "else") kind.Else (omega arith) refl refl;
  while_word = run_alone (codes "while") kind.While (omega arith) refl refl;
  int_word = run_alone (codes "int") kind.Int (omega arith) refl refl;
}

-- a label's keyword
pub label_alone : (l : Label) → IsAlone (label_keyword l) (keyword_of l)
unfolding word_run
label_alone label.Public = run_alone (codes "public") kind.Public (omega arith) refl refl
label_alone label.Secret = run_alone (codes "secret") kind.Secret (omega arith) refl refl

-- the sign of an operation
pub record OpSign (o : Op) : Type 0 where
  pub k : Kind
  pub alone : IsAlone (op_sign o) k
  pub is : operator_of k ≡ Some o

-- the sign of each operation of the source language
pub op_alone : (o : Op) → o ≢ op.Remu → OpSign o
unfolding sign_of pair_of
op_alone op.Add h = record { k = kind.Plus; alone = single_alone 43 kind.Plus refl refl refl; is = refl }
op_alone op.Sub h = record { k = kind.Minus; alone = single_alone 45 kind.Minus refl refl refl; is = refl }
op_alone op.Mul h = record { k = kind.Star; alone = single_alone 42 kind.Star refl refl refl; is = refl }
op_alone op.Div h = record { k = kind.Slash; alone = single_alone 47 kind.Slash refl refl refl; is = refl }
op_alone op.Rem h = record { k = kind.Percent; alone = single_alone 37 kind.Percent refl refl refl; is = refl }
op_alone op.Remu h = absurd (h refl)
op_alone op.And h = record { k = kind.Amp; alone = single_alone 38 kind.Amp refl refl refl; is = refl }
op_alone op.Or h = record { k = kind.Bar; alone = single_alone 124 kind.Bar refl refl refl; is = refl }
op_alone op.Xor h = record { k = kind.Caret; alone = single_alone 94 kind.Caret refl refl refl; is = refl }
op_alone op.Shl h = record { k = kind.Shl; alone = double_alone 60 60 kind.Shl refl refl refl; is = refl }
op_alone op.Shr h = record { k = kind.Shr; alone = double_alone 62 62 kind.Shr refl refl refl; is = refl }

pub record CmpSign (c : Cmp) : Type 0 where
  pub k : Kind
  pub alone : IsAlone (cmp_sign c) k
  pub is : comparison_of k ≡ Some c

-- the sign of a comparison
pub cmp_alone : (c : Cmp) → CmpSign c
unfolding sign_of pair_of
cmp_alone cmp.Eq = record { k = kind.Eq; alone = double_alone 61 61 kind.Eq refl refl refl; is = refl }
cmp_alone cmp.Ne = record { k = kind.Ne; alone = double_alone 33 61 kind.Ne refl refl refl; is = refl }
cmp_alone cmp.Lt = record { k = kind.Lt; alone = single_alone 60 kind.Lt refl refl refl; is = refl }
cmp_alone cmp.Le = record { k = kind.Le; alone = double_alone 60 61 kind.Le refl refl refl; is = refl }
cmp_alone cmp.Gt = record { k = kind.Gt; alone = single_alone 62 kind.Gt refl refl refl; is = refl }
cmp_alone cmp.Ge = record { k = kind.Ge; alone = double_alone 62 61 kind.Ge refl refl refl; is = refl }

some_bytes : (n : ℕ) → nat_le 1 n ≡ true → 0 < n
some_bytes n h = grind arith

-- a name that isn't a keyword
pub name_alone : (name : List ℕ) → IsFree name → IsAlone name (kind.Word name)
name_alone name f =
    let long = and_parts (nat_le 1 (length name)) _ f.fits in
    let short = and_parts (nat_le (length name) 32) _ long.1 in
    let letters = and_parts (not (is_ascii_digit (slice_index name 0))) (list_all is_name_byte name) short.1 in
    run_alone name (kind.Word name) (some_bytes (length name) long.0) letters.1 f.no_keyword

digit_name : (c : ℕ) → is_ascii_digit c ≡ true → is_name_byte c ≡ true
digit_name c h = rw h refl

digits_name : (xs : List ℕ) → list_all is_ascii_digit xs ≡ true → list_all is_name_byte xs ≡ true
digits_name [] h = refl
digits_name (x ∷ xs) h =
    let p = and_parts (is_ascii_digit x) _ h in and_from (is_name_byte x) _ (digit_name x p.0) (digits_name xs p.1)

-- a number, from its digits and its value
abbrev number_by : ℕ → ℕ → ℕ → LetterRun
number_by size all value =
    if nat_lt (2 ^ 63 - 1) value then Big else (if size == all then Is (kind.Num (pos value)) else Mixed size)

not_big : (n : ℕ) → n < 2 ^ 63 → nat_lt (2 ^ 63 - 1) n ≡ false
not_big n h = grind (arith, nat_tests)

same_size : (n : ℕ) → (n == n) ≡ true
same_size n = grind (arith, nat_tests)

number_is : (n size : ℕ) → n < 2 ^ 63 → number_by size size n ≡ Is (kind.Num (pos n))
number_is n size h = rw (not_big n h, same_size size) refl

number_run_by : (run : List ℕ)
    → number_run run ≡ number_by (prefix_len is_ascii_digit run) (length run)
    (digits_value 10 (take (prefix_len is_ascii_digit run) run))
unfolding number_run
number_run_by run = refl

whole_prefix : (run : List ℕ) → list_all is_ascii_digit run ≡ true → prefix_len is_ascii_digit run ≡ length run
whole_prefix run h =
    ap (prefix_len is_ascii_digit) (sym (append-nil run)) ∙ longest_prefix is_ascii_digit run [] h (inl refl)

digits_run : (run : List ℕ) (n : ℕ)
    → list_all is_ascii_digit run ≡ true → digits_value 10 run ≡ n → n < 2 ^ 63 → number_run run ≡ Is (kind.Num (pos n))
digits_run run n each value h =
    let size = whole_prefix run each in
    number_run_by run ∙ (ap (λ m. number_by m (length run) (digits_value 10 (take m run))) size
    ∙ (ap (λ z. number_by (length run) (length run) (digits_value 10 z)) (take_all (length run) run (omega arith))
    ∙ (ap (number_by (length run) (length run)) value ∙ number_is n (length run) h)))

starts_run : (run : List ℕ) (r : LetterRun) → is_ascii_digit (slice_index run 0) ≡ true → number_run run ≡ r
    → letter_run_of run ≡ r
starts_run run r h is = rw h is

-- the digits of a number are a longest run, and are that number
pub record IsNumberRun (n : ℕ) : Type 0 where
  pub some : 0 < length (decimal n)
  pub each : list_all is_name_byte (decimal n) ≡ true
  pub is : letter_run_of (decimal n) ≡ Is (kind.Num (pos n))

-- the decimal text of a number is one run
pub number_run_of : (n : ℕ) → n < 2 ^ 63 → IsNumberRun n
number_run_of n h =
    let each = decimal_digits n (omega arith) in
    let some = decimal_nonempty n (omega arith) in
    record {
      some = some;
      each = digits_name (decimal n) each;
      is = starts_run (decimal n) _ (list_all-get_or is_ascii_digit (decimal n) 0 0 each some)
          (digits_run (decimal n) n each (numeral_value n (omega arith)) h);
    }

-- a number
pub number_alone : (n : ℕ) → n < 2 ^ 63 → IsAlone (decimal n) (kind.Num (pos n))
number_alone n h = let r = number_run_of n h in run_alone (decimal n) (kind.Num (pos n)) r.some r.each r.is
