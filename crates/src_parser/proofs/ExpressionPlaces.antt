-- The place of a token among those of an expression, and what reading says about it there.
use Rattle.std.proofs.Common.{◌≡◌, ℕ, ◌+◌, ◌<◌, ◌≤◌, List, length, take, drop, get_or, Some, None, refl, sym, ap, ◌∙◌, subst, arith}
use Rattle.std.proofs.lemmas.List.{take_all}
use Rattle.src_lexer.specs.declared.tokens.Token.{Token}
use Rattle.src_tree.specs.Prelude.{Tree}
use Rattle.src_parser.specs.Prelude.{limits, token_kinds, Reading, TokenStep, Moves, Stops, Deep, reads, whole, IsExpression, ExpressionBegins, FoundExpression, StrayToken, TokenTooDeep, CutExpression, reads_all, left_whole, ended}
use Rattle.src_parser.proofs.TokenPlaces.{split_at, kinds_more}
use Rattle.src_parser.proofs.ReadTokens.{first, begins, is_expression, stops_all, deep_none, unfinished, alike, one_more, wider}
use Rattle.src_lexer.specs.declared.tokens.Kind.TheVariants as kind

-- a token that is read
pub goes_at : (tokens : List Token) (opened used i : ℕ) (token : Token) (x y : Reading)
    → i < length tokens → token ≡ get_or tokens i token
    → reads_all limits (first opened used) (token_kinds (take i tokens)) ≡ Moves x
    → reads limits x token.kind ≡ Moves y
    → reads_all limits (first opened used) (token_kinds (take (i + 1) tokens)) ≡ Moves y
goes_at tokens opened used i token x y h is before now =
    ap (λ ks. reads_all limits (first opened used) ks) (kinds_more tokens i token h is)
    ∙ one_more limits (token_kinds (take i tokens)) token.kind (first opened used) x y before now

-- a token after a whole expression
pub found_at : (tokens : List Token) (opened used i : ℕ) (token : Token) (x y : Reading) (tree : Tree)
    → used ≤ 256 → i < length tokens → token ≡ get_or tokens i token
    → reads_all limits (first opened used) (token_kinds (take i tokens)) ≡ Moves x
    → reads limits x token.kind ≡ Stops y → whole y ≡ Some tree → FoundExpression tokens opened used tree i
found_at tokens opened used i token x y tree few h is before now w = record {
  within = omega arith;
  is = is_expression limits opened used (token_kinds (take i tokens)) x y token.kind tree few before now w;
  ends = λ g most b. stops_all limits most opened used (token_kinds (take i tokens)) x y token.kind before now
      (subst (λ ks. ExpressionBegins most opened used ks) (kinds_more tokens i token h is) b);
}

none_left : (x y : Reading) → reads limits x kind.Semi ≡ Stops y → whole y ≡ None → ended limits x ≡ None
none_left x y stop w = ap left_whole stop ∙ w

-- a token with which the expression can't continue
pub stray_at : (tokens : List Token) (opened used i : ℕ) (token : Token) (x y : Reading)
    → used ≤ 256 → i < length tokens → token ≡ get_or tokens i token
    → reads_all limits (first opened used) (token_kinds (take i tokens)) ≡ Moves x
    → reads limits x token.kind ≡ Stops y → whole y ≡ None → StrayToken tokens opened used token.start
stray_at tokens opened used i token x y few h is before now w = record {
  before = take i tokens;
  token = token;
  after = drop (i + 1) tokens;
  split = split_at tokens i token h is;
  place = refl;
  begins = begins limits opened used (token_kinds (take i tokens)) x few before;
  unfinished = λ tree. unfinished limits opened used (token_kinds (take i tokens)) x tree before
      (none_left x y (alike limits x y token.kind now) w);
  none = λ most. stops_all limits most opened used (token_kinds (take i tokens)) x y token.kind before now;
}

-- a token that would nest too deep
pub deep_at : (tokens : List Token) (opened used i : ℕ) (token : Token) (x : Reading)
    → used ≤ 256 → i < length tokens → token ≡ get_or tokens i token
    → reads_all limits (first opened used) (token_kinds (take i tokens)) ≡ Moves x
    → reads limits x token.kind ≡ Deep → TokenTooDeep tokens opened used token.start
deep_at tokens opened used i token x few h is before now =
    let w = wider limits opened used (token_kinds (take i tokens)) x token.kind few before now in
    record {
      before = take i tokens;
      token = token;
      after = drop (i + 1) tokens;
      split = split_at tokens i token h is;
      place = refl;
      begins = begins limits opened used (token_kinds (take i tokens)) x few before;
      none = deep_none limits opened used (token_kinds (take i tokens)) x token.kind before now;
      wider = w.wide;
      begins_wider = w.begins;
    }

all_read : (tokens : List Token) (opened used i : ℕ) (x : Reading) → length tokens ≤ i
    → reads_all limits (first opened used) (token_kinds (take i tokens)) ≡ Moves x
    → reads_all limits (first opened used) (token_kinds tokens) ≡ Moves x
all_read tokens opened used i x h e =
    subst (λ ts. reads_all limits (first opened used) (token_kinds ts) ≡ Moves x) (take_all i tokens h) e

-- tokens that end before the expression does
pub cut_at : (tokens : List Token) (opened used i : ℕ) (x : Reading) → used ≤ 256 → length tokens ≤ i
    → reads_all limits (first opened used) (token_kinds (take i tokens)) ≡ Moves x → ended limits x ≡ None
    → CutExpression tokens opened used
cut_at tokens opened used i x few h e none =
    let all = all_read tokens opened used i x h e in
    record {
      begins = begins limits opened used (token_kinds tokens) x few all;
      unfinished = λ tree. unfinished limits opened used (token_kinds tokens) x tree all none;
    }

-- tokens that end where the expression does
pub whole_at : (tokens : List Token) (opened used i : ℕ) (x : Reading) (tree : Tree) → used ≤ 256
    → length tokens ≤ i → reads_all limits (first opened used) (token_kinds (take i tokens)) ≡ Moves x
    → ended limits x ≡ Some tree → FoundExpression tokens opened used tree (length tokens)
whole_at tokens opened used i x tree few h e some = record {
  within = omega arith;
  is = subst (λ ts. IsExpression limits opened used (token_kinds ts) tree)
      (sym (take_all (length tokens) tokens (omega arith)))
      (by (reads limits x kind.Semi) refl some);
  ends = λ g most b. absurd (omega arith);
}
  where
    all : reads_all limits (first opened used) (token_kinds tokens) ≡ Moves x
    all = all_read tokens opened used i x h e

    by : (s : TokenStep) → reads limits x kind.Semi ≡ s → left_whole s ≡ Some tree
        → IsExpression limits opened used (token_kinds tokens) tree
    by (Moves y) now w = absurd (cc)
    by (Stops y) now w =
        is_expression limits opened used (token_kinds tokens) x y kind.Semi tree few all now w
    by Deep now w = absurd (cc)
