-- Tokens are a sentence, or an error is true of them, for any grammar whose sentences are read token by token.
use Rattle.std.proofs.Common.{◌≡◌, ℕ, List, [], ◌∷◌, ◌++◌, Option, Some, None, refl, sym, ap, ◌∙◌, subst, append_assoc}
use Rattle.std.proofs.lemmas.List.{append-nil, map-append}
use Rattle.src_lexer.specs.declared.tokens.Kind.{Kind}
use Rattle.src_lexer.specs.declared.tokens.Token.{Token}
use Rattle.src_parser.specs.Prelude.{Limits, limits, token_kinds, Advance, Goes, Wrong, TooMuch, advances, Stray, Deeper, Cut}
use Rattle.src_parser.proofs.Tokenwise.{Laws, begins, wrong_begins, much_begins, wider_begins, one_more_advance, whole_sentence, no_sentence}

pub data Outcome {P : Type 0} (Sentence : Limits → List Kind → P → Type 0) (tokens : List Token) : Type 0 where
  IsSentence : (tree : P) → Sentence limits (token_kinds tokens) tree → Outcome Sentence tokens
  IsStray : (at : ℕ) → Stray Sentence tokens at → Outcome Sentence tokens
  IsDeeper : (at : ℕ) → Deeper Sentence tokens at → Outcome Sentence tokens
  IsCut : Cut Sentence tokens → Outcome Sentence tokens

module _ {S P : Type 0} {advanced : Limits → S → Kind → Advance S} {gives : S → Option P} {open_braces : S → ℕ}
    {start : S} {Sentence : Limits → List Kind → P → Type 0} {Standing : Limits → S → List Kind → Type 0}
    (laws : Laws advanced gives open_braces start Sentence Standing) where
  abbrev LeadsTo : List Token → S → Type 0
  LeadsTo tokens state = advances advanced limits start (token_kinds tokens) ≡ Goes state

  ended : (tokens : List Token) (state : S) → LeadsTo tokens state → (tree : Option P) → gives state ≡ tree
      → Outcome Sentence tokens
  ended tokens state leads (Some tree) is =
      IsSentence tree (whole_sentence laws limits (token_kinds tokens) state tree leads is)
  ended tokens state leads None is = IsCut (record {
    begins = begins laws limits (token_kinds tokens) state leads;
    none = λ tree s. no_sentence laws limits (token_kinds tokens) state tree leads is s;
  })

  one-more : (before : List Token) (token : Token) (state next : S) → LeadsTo before state
      → advanced limits state token.kind ≡ Goes next → LeadsTo (before ++ token ∷ []) next
  one-more before token state next leads is =
      ap (λ kinds. advances advanced limits start kinds) (map-append (λ (t : Token). t.kind) before (token ∷ []))
      ∙ one_more_advance laws limits (token_kinds before) token.kind start state next leads is

  at-token : (before rest : List Token) (token : Token) (state : S) → LeadsTo before state → (t : Advance S)
      → advanced limits state token.kind ≡ t
      → ((next : S) → LeadsTo (before ++ token ∷ []) next → Outcome Sentence (before ++ token ∷ rest))
      → Outcome Sentence (before ++ token ∷ rest)
  at-token before rest token state leads (Goes next) is more = more next (one-more before token state next leads is)
  at-token before rest token state leads Wrong is more = IsStray token.start (record {
    before = before;
    token = token;
    after = rest;
    split = refl;
    place = refl;
    begins = begins laws limits (token_kinds before) state leads;
    none = λ most. wrong_begins laws limits most (token_kinds before) token.kind state leads is;
  })
  at-token before rest token state leads TooMuch is more =
      let wider = wider_begins laws limits (token_kinds before) token.kind state leads is in
      IsDeeper token.start (record {
        before = before;
        token = token;
        after = rest;
        split = refl;
        place = refl;
        begins = begins laws limits (token_kinds before) state leads;
        none = much_begins laws limits (token_kinds before) token.kind state leads is;
        wider = wider.wide;
        begins_wider = wider.begins;
      })

  walk : (before rest : List Token) (state : S) → LeadsTo before state → Outcome Sentence (before ++ rest)
  walk before [] state leads =
      subst (λ (ts : List Token). Outcome Sentence ts) (sym (append-nil before))
      (ended before state leads (gives state) refl)
  walk before (token ∷ rest) state leads =
      at-token before rest token state leads (advanced limits state token.kind) refl
      (λ next on. subst (λ (ts : List Token). Outcome Sentence ts) (append_assoc before (token ∷ []) rest)
      (walk (before ++ token ∷ []) rest next on))

  pub outcome : (tokens : List Token) → Outcome Sentence tokens
  outcome tokens = walk [] tokens start refl
