-- Tokens that are read in several lists: from any state, and from the first one.
use Rattle.std.proofs.Common.{◌≡◌, ℕ, ◌+◌, ◌<◌, ◌≤◌, List, [], ◌∷◌, ◌++◌, length, take, drop, get_or, take-add, Option, Some, None, refl, sym, ap, ◌∙◌, subst, append_assoc, arith}
use Rattle.std.proofs.lemmas.List.{map-append, take_all}
use Rattle.src_lexer.specs.declared.tokens.Kind.{Kind}
use Rattle.src_lexer.specs.declared.tokens.Token.{Token}
use Rattle.src_parser.specs.Prelude.{Limits, limits, ReadsTo, StopsAt, token_kinds, Advance, Goes, Wrong, TooMuch, then_advance, advances, Stray, Deeper, Cut}
use Rattle.src_parser.proofs.TokenPlaces.{split_at, kinds_more}
use Rattle.src_parser.proofs.Tokenwise.{Laws, begins, wrong_begins, much_begins, wider_begins, whole_sentence, no_sentence}

module _ {S : Type 0} (advanced : Limits → S → Kind → Advance S) where
  abbrev goes_over : S → List Kind → Advance S
  goes_over state ks = advances advanced limits state ks

  then_both : (ks more : List Kind) (t : Advance S) (middle last : S)
      → ((s : S) → goes_over s ks ≡ Goes middle → goes_over s (ks ++ more) ≡ Goes last)
      → then_advance t (λ s. goes_over s ks) ≡ Goes middle → then_advance t (λ s. goes_over s (ks ++ more)) ≡ Goes last
  then_both ks more (Goes s) middle last rest e = rest s e
  then_both ks more Wrong middle last rest e = absurd (cc)
  then_both ks more TooMuch middle last rest e = absurd (cc)

  goes_both : (ks more : List Kind) (state middle last : S) → goes_over state ks ≡ Goes middle
      → goes_over middle more ≡ Goes last → goes_over state (ks ++ more) ≡ Goes last
  goes_both [] more state middle last e f =
      let g : state ≡ middle = cc in subst (λ z. goes_over z more ≡ Goes last) (sym g) f
  goes_both (k ∷ ks) more state middle last e f =
      then_both ks more (advanced limits state k) middle last (λ s h. goes_both ks more s middle last h f) e

  -- tokens, and more from where they lead
  pub reads_both : (front back : List Token) (state middle last : S) → ReadsTo advanced state front middle
      → ReadsTo advanced middle back last → ReadsTo advanced state (front ++ back) last
  reads_both front back state middle last e f =
      ap (λ ks. goes_over state ks) (map-append (λ (t : Token). t.kind) front back)
      ∙ goes_both (token_kinds front) (token_kinds back) state middle last e f

  read_on : (tokens : List Token) (i n : ℕ) (state middle last : S) → ReadsTo advanced state (take i tokens) middle
      → ReadsTo advanced middle (take n (drop i tokens)) last → ReadsTo advanced state (take (i + n) tokens) last
  read_on tokens i n state middle last e f =
      subst (λ (ts : List Token). ReadsTo advanced state ts last) (sym (take-add i n tokens))
      (reads_both (take i tokens) (take n (drop i tokens)) state middle last e f)

  -- the next `n` tokens, where `rest` are those that aren't read yet
  pub reads_more : (tokens rest : List Token) (i n : ℕ) (state middle last : S) → rest ≡ drop i tokens
      → ReadsTo advanced state (take i tokens) middle → ReadsTo advanced middle (take n rest) last
      → ReadsTo advanced state (take (i + n) tokens) last
  reads_more tokens rest i n state middle last is e f =
      read_on tokens i n state middle last e
      (subst (λ (ts : List Token). ReadsTo advanced middle (take n ts) last) is f)

  -- the same, if no token was read
  pub reads_none : (tokens rest : List Token) (i n : ℕ) (state middle last : S) → rest ≡ drop i tokens → n ≡ 0
      → ReadsTo advanced state (take i tokens) middle → ReadsTo advanced middle (take n rest) last
      → ReadsTo advanced state (take i tokens) last
  reads_none tokens rest i n state middle last is none e f =
      subst (λ (m : ℕ). ReadsTo advanced state (take m tokens) last) (omega arith)
      (reads_more tokens rest i n state middle last is e f)

  -- one token more
  pub reads_token : (tokens : List Token) (i : ℕ) (token : Token) (state middle last : S) → i < length tokens
      → token ≡ get_or tokens i token → ReadsTo advanced state (take i tokens) middle
      → advanced limits middle token.kind ≡ Goes last → ReadsTo advanced state (take (i + 1) tokens) last
  reads_token tokens i token state middle last h is e f =
      ap (λ ks. goes_over state ks) (kinds_more tokens i token h is)
      ∙ goes_both (token_kinds (take i tokens)) (token.kind ∷ []) state middle last e
      (ap (λ t. then_advance t (λ s. Goes s)) f)

  -- a token that isn't read
  pub stops_token : (tokens : List Token) (i : ℕ) (token : Token) (state middle : S) (how : Advance S)
      → i < length tokens → token ≡ get_or tokens i token → ReadsTo advanced state (take i tokens) middle
      → advanced limits middle token.kind ≡ how → StopsAt advanced state tokens token.start how
  stops_token tokens i token state middle how h is e f = record {
    front = take i tokens;
    token = token;
    back = drop (i + 1) tokens;
    split = split_at tokens i token h is;
    place = refl;
    last = middle;
    leads = e;
    stops = f;
  }

  -- all tokens
  pub reads_all : (tokens : List Token) (i : ℕ) (state last : S) → length tokens ≤ i
      → ReadsTo advanced state (take i tokens) last → ReadsTo advanced state tokens last
  reads_all tokens i state last h e =
      subst (λ (ts : List Token). ReadsTo advanced state ts last) (take_all i tokens h) e

around : (a b c d : List Token) (t : Token) → (a ++ (b ++ t ∷ c)) ++ d ≡ (a ++ b) ++ t ∷ (c ++ d)
around a b c d t = simp append_assoc refl

module _ {S P : Type 0} {advanced : Limits → S → Kind → Advance S} {gives : S → Option P} {open_braces : S → ℕ}
    {start : S} {Sentence : Limits → List Kind → P → Type 0} {Standing : Limits → S → List Kind → Type 0}
    (laws : Laws advanced gives open_braces start Sentence Standing) where
  -- a token with which no sentence can continue, for any tokens after it
  pub stray_after : (before tokens after : List Token) (state : S) (at : ℕ) → ReadsTo advanced start before state
      → StopsAt advanced state tokens at Wrong → Stray Sentence ((before ++ tokens) ++ after) at
  stray_after before tokens after state at read s =
      let all = reads_both advanced before s.front start state s.last read s.leads in
      record {
        before = before ++ s.front;
        token = s.token;
        after = s.back ++ after;
        split = ap (λ (ts : List Token). (before ++ ts) ++ after) s.split ∙ around before s.front s.back after s.token;
        place = s.place;
        begins = begins laws limits (token_kinds (before ++ s.front)) s.last all;
        none = λ most. wrong_begins laws limits most (token_kinds (before ++ s.front)) s.token.kind s.last all s.stops;
      }

  -- a token that would nest too deep, for any tokens after it
  pub deeper_after : (before tokens after : List Token) (state : S) (at : ℕ) → ReadsTo advanced start before state
      → StopsAt advanced state tokens at TooMuch → Deeper Sentence ((before ++ tokens) ++ after) at
  deeper_after before tokens after state at read s =
      let all = reads_both advanced before s.front start state s.last read s.leads in
      let wider = wider_begins laws limits (token_kinds (before ++ s.front)) s.token.kind s.last all s.stops in
      record {
        before = before ++ s.front;
        token = s.token;
        after = s.back ++ after;
        split = ap (λ (ts : List Token). (before ++ ts) ++ after) s.split ∙ around before s.front s.back after s.token;
        place = s.place;
        begins = begins laws limits (token_kinds (before ++ s.front)) s.last all;
        none = much_begins laws limits (token_kinds (before ++ s.front)) s.token.kind s.last all s.stops;
        wider = wider.wide;
        begins_wider = wider.begins;
      }

  -- tokens that end before a sentence does
  pub cut_at_end : (tokens : List Token) (state : S) → ReadsTo advanced start tokens state → gives state ≡ None
      → Cut Sentence tokens
  cut_at_end tokens state read none = record {
    begins = begins laws limits (token_kinds tokens) state read;
    none = λ tree s. no_sentence laws limits (token_kinds tokens) state tree read none s;
  }

  -- tokens that end where a sentence does
  pub whole_at_end : (tokens : List Token) (state : S) (tree : P) → ReadsTo advanced start tokens state
      → gives state ≡ Some tree → Sentence limits (token_kinds tokens) tree
  whole_at_end tokens state tree read some = whole_sentence laws limits (token_kinds tokens) state tree read some
