-- At most one error is true of tokens: tokens that begin a sentence also begin one up to each token among them.
use Rattle.std.proofs.Common.{◌≡◌, ℕ, ◌+◌, ◌-◌, List, [], ◌∷◌, ◌++◌, refl, sym, ap, ◌∙◌, subst, append_assoc}
use Rattle.std.proofs.lemmas.List.{map-append}
use Rattle.src_lexer.specs.declared.tokens.Kind.{Kind}
use Rattle.src_lexer.specs.declared.tokens.Token.{Token}
use Rattle.src_parser.specs.Prelude.{Limits, limits, token_kinds, Shallow, Begins, Stray, Deeper, Cut}
use Rattle.src_lexer.specs.declared.tokens.Kind.TheVariants as kind

-- two places of a list: they are the same, or one of them is before the other
data TwoPlaces {A : Type 0} (a : List A) (x : A) (b : List A) (y : A) : Type 0 where
  OnePlace : a ≡ b → x ≡ y → TwoPlaces a x b y
  Earlier : (between : List A) → b ≡ a ++ x ∷ between → TwoPlaces a x b y
  Later : (between : List A) → a ≡ b ++ y ∷ between → TwoPlaces a x b y

behind_one : {A : Type 0} {a b : List A} {x y : A} (z w : A) → z ≡ w → TwoPlaces a x b y
    → TwoPlaces (z ∷ a) x (w ∷ b) y
behind_one z w e (OnePlace f g) = OnePlace (cc) g
behind_one z w e (Earlier between f) = Earlier between (cc)
behind_one z w e (Later between f) = Later between (cc)

places : {A : Type 0} (a b u v : List A) (x y : A) → a ++ x ∷ u ≡ b ++ y ∷ v → TwoPlaces a x b y
places [] [] u v x y e = OnePlace refl (cc)
places [] (w ∷ b) u v x y e = Earlier b (let f : w ≡ x = cc in ap (λ t. t ∷ b) f)
places (z ∷ a) [] u v x y e = Later a (let f : z ≡ y = cc in ap (λ t. t ∷ a) f)
places (z ∷ a) (w ∷ b) u v x y e =
    let f : z ≡ w = cc in let g : a ++ x ∷ u ≡ b ++ y ∷ v = cc in behind_one z w f (places a b u v x y g)

shallow_front : (most depth : ℕ) (a b : List Kind) → Shallow most depth (a ++ b) → Shallow most depth a
shallow_front most depth [] b s = tt
shallow_front most depth (kind.LBrace ∷ a) b s = (s.0, shallow_front most (depth + 1) a b s.1)
shallow_front most depth (kind.RBrace ∷ a) b s = shallow_front most (depth - 1) a b s
shallow_front most depth (_ ∷ a) b s = shallow_front most depth a b s

-- the first token together with which the tokens before it begin no sentence within the limits
record Stops {P : Type 0} (Sentence : Limits → List Kind → P → Type 0) (tokens before : List Token)
    (token : Token) : Type 0 where
  after : List Token
  split : tokens ≡ before ++ token ∷ after
  begins : Begins Sentence limits (token_kinds before)
  none : Begins Sentence limits (token_kinds before ++ token.kind ∷ []) → ⊥

module _ {P : Type 0} {Sentence : Limits → List Kind → P → Type 0} where
  front_begins : {most : Limits} (a b : List Kind) → Begins Sentence most (a ++ b) → Begins Sentence most a
  front_begins {most} a b s = record {
    shallow = shallow_front most.braces 0 a b s.shallow;
    braces = s.braces;
    more = b ++ s.more;
    tree = s.tree;
    sentence = subst
        (λ z. Sentence (record { brackets = most.brackets; braces = s.braces; operators = most.operators }) z s.tree)
        (append_assoc a b s.more) s.sentence;
  }

  -- tokens that begin a sentence also begin one up to each token among them
  token_begins : {most : Limits} (before between tokens : List Token) (token : Token)
      → tokens ≡ before ++ token ∷ between → Begins Sentence most (token_kinds tokens)
      → Begins Sentence most (token_kinds before ++ token.kind ∷ [])
  token_begins {most} before between tokens token is b =
      front_begins (token_kinds before ++ token.kind ∷ []) (token_kinds between)
      (subst (λ z. Begins Sentence most z)
      (ap token_kinds is ∙ (map-append (λ (t : Token). t.kind) before (token ∷ between)
      ∙ sym (append_assoc (token_kinds before) (token.kind ∷ []) (token_kinds between)))) b)

  stray_stops : {tokens : List Token} {at : ℕ} (s : Stray Sentence tokens at) → Stops Sentence tokens s.before s.token
  stray_stops s = record { after = s.after; split = s.split; begins = s.begins; none = s.none limits }

  deeper_stops : {tokens : List Token} {at : ℕ} (s : Deeper Sentence tokens at) → Stops Sentence tokens s.before s.token
  deeper_stops s = record { after = s.after; split = s.split; begins = s.begins; none = s.none }

  at_one_place : {tokens before behind : List Token} {token other : Token} → Stops Sentence tokens before token
      → Stops Sentence tokens behind other → TwoPlaces before token behind other → (before ≡ behind) × (token ≡ other)
  at_one_place s t (OnePlace f g) = (f, g)
  at_one_place {before = before} {behind = behind} {token = token} s t (Earlier between f) =
      absurd (s.none (token_begins before between behind token f t.begins))
  at_one_place {before = before} {behind = behind} {other = other} s t (Later between f) =
      absurd (t.none (token_begins behind between before other f s.begins))

  one_stop : {tokens before behind : List Token} {token other : Token} → Stops Sentence tokens before token
      → Stops Sentence tokens behind other → (before ≡ behind) × (token ≡ other)
  one_stop {before = before} {behind = behind} {token = token} {other = other} s t =
      at_one_place s t (places before behind s.after t.after token other (sym s.split ∙ t.split))

  pub one_stray : {tokens : List Token} {at to : ℕ} → Stray Sentence tokens at → Stray Sentence tokens to → at ≡ to
  one_stray s t = s.place ∙ (ap (λ (x : Token). x.start) (one_stop (stray_stops s) (stray_stops t)).1 ∙ sym t.place)

  pub one_deeper : {tokens : List Token} {at to : ℕ} → Deeper Sentence tokens at → Deeper Sentence tokens to
      → at ≡ to
  one_deeper s t = s.place ∙ (ap (λ (x : Token). x.start) (one_stop (deeper_stops s) (deeper_stops t)).1 ∙ sym t.place)

  -- a token together with which the tokens before it begin no sentence, for any limits, isn't one that nests too deep
  pub stray_or_deeper : {tokens : List Token} {at to : ℕ} → Stray Sentence tokens at → Deeper Sentence tokens to → ⊥
  stray_or_deeper s t =
      let same = one_stop (stray_stops s) (deeper_stops t) in
      s.none t.wider (subst (λ z. Begins Sentence t.wider (token_kinds z ++ s.token.kind ∷ [])) (sym same.0)
      (subst (λ (z : Token). Begins Sentence t.wider (token_kinds t.before ++ z.kind ∷ [])) (sym same.1)
      t.begins_wider))

  -- if all tokens begin a sentence, no token has an error
  pub stray_or_cut : {tokens : List Token} {at : ℕ} → Stray Sentence tokens at → Cut Sentence tokens → ⊥
  stray_or_cut {tokens = tokens} s c = s.none limits (token_begins s.before s.after tokens s.token s.split c.begins)

  pub deeper_or_cut : {tokens : List Token} {at : ℕ} → Deeper Sentence tokens at → Cut Sentence tokens → ⊥
  deeper_or_cut {tokens = tokens} s c = s.none (token_begins s.before s.after tokens s.token s.split c.begins)
