-- How canonical texts split into tokens.
use Rattle.std.proofs.Common.{◌≡◌, ◌⊎◌, inl, inr, ℕ, ◌+◌, ◌<◌, true, false, List, [], ◌∷◌, ◌++◌, length, length-append, refl, sym, ap, ◌∙◌, subst, append_assoc, arith, Some, Ok}
use Rattle.std.specs.List.{list_all}
use Rattle.std.proofs.lemmas.Bool.Decides.{nat_tests}
use Rattle.gr_word.specs.Prelude.{is_name_byte}
use Rattle.src_lexer.specs.declared.tokens.Kind.{Kind}
use Rattle.src_lexer.specs.declared.tokens.Token.{Token}
use Rattle.src_lexer.specs.Prelude.{is_white, Is, letter_run_of, sign_of, Two, Apart, pair_of, Lexed, with_token, token_at, Splits, Blank, Word, Double, Single}
use Rattle.src_lexer.proofs.FirstPieces.{place_at}
use Rattle.src_parser.specs.Prelude.{token_kinds}

-- a text that splits into tokens of these kinds, before a given rest
pub record Rendering (at : ℕ) (text rest : List ℕ) (ks : List Kind) (more : List Token) : Type 0 where
  pub tokens : List Token
  pub split : Splits at (text ++ rest) (Ok tokens)
  pub same : token_kinds tokens ≡ ks ++ token_kinds more

-- a text splits into tokens of these kinds, before any rest
pub record Renders (text : List ℕ) (ks : List Kind) : Type 0 where
  pub render : (at : ℕ) (rest : List ℕ) (more : List Token)
      → Splits (at + length text) rest (Ok more) → Rendering at text rest ks more

split_at : {r : Lexed} {at : ℕ} (xs ys : List ℕ) → xs ≡ ys → Splits at xs r → Splits at ys r
split_at {r} {at} xs ys e s = subst (λ z. Splits at z r) e s

-- the empty text has no tokens
pub nothing : Renders [] []
nothing = record {
  render = λ at rest more s. record { tokens = more; split = place_at (at + 0) at (omega arith) s; same = refl };
}

-- two texts in sequence
pub both : {a b : List ℕ} {ks ls : List Kind} → Renders a ks → Renders b ls → Renders (a ++ b) (ks ++ ls)
both {a} {b} {ks} {ls} r q = record {
  render = λ at rest more s.
      let size = length-append a b in
      let back =
      q.render (at + length a) rest more (place_at (at + length (a ++ b)) (at + length a + length b) (omega arith) s) in
      let front = r.render at (b ++ rest) back.tokens back.split in
      record {
        tokens = front.tokens;
        split = split_at {r = Ok front.tokens} {at = at} (a ++ (b ++ rest)) ((a ++ b) ++ rest)
            (sym (append_assoc a b rest)) front.split;
        same = front.same ∙ (ap (λ z. ks ++ z) back.same ∙ sym (append_assoc ks ls (token_kinds more)));
      };
}

-- bytes that are this token if white space follows
pub record IsAlone (bytes : List ℕ) (k : Kind) : Type 0 where
  pub alone : (at b : ℕ) (rest : List ℕ) (r : Lexed) → (b ≡ 32) ⊎ (b ≡ 10) → Splits (at + length bytes) (b ∷ rest) r
      → Splits at (bytes ++ b ∷ rest) (with_token (token_at k at (length bytes)) r)

white : (b : ℕ) → (b ≡ 32) ⊎ (b ≡ 10) → is_white b ≡ true
white b (inl e) = subst (λ z. is_white z ≡ true) (sym e) refl
white b (inr e) = subst (λ z. is_white z ≡ true) (sym e) refl

ends_name : (b : ℕ) → (b ≡ 32) ⊎ (b ≡ 10) → is_name_byte b ≡ false
ends_name b (inl e) = subst (λ z. is_name_byte z ≡ false) (sym e) refl
ends_name b (inr e) = subst (λ z. is_name_byte z ≡ false) (sym e) refl

-- a token and white space
pub behind_white : {bytes : List ℕ} {k : Kind} (b : ℕ)
    → (b ≡ 32) ⊎ (b ≡ 10) → IsAlone bytes k → Renders (bytes ++ b ∷ []) (k ∷ [])
behind_white {bytes} {k} b w a = record {
  render = λ at rest more s.
      let size = length-append bytes (b ∷ []) in
      record {
        tokens = token_at k at (length bytes) ∷ more;
        split = split_at {r = Ok (token_at k at (length bytes) ∷ more)} {at = at} (bytes ++ b ∷ rest)
            ((bytes ++ b ∷ []) ++ rest) (sym (append_assoc bytes (b ∷ []) rest))
            (a.alone at b rest (Ok more) w
            (Blank (white b w) (place_at (at + length (bytes ++ b ∷ [])) (at + length bytes + 1) (omega arith) s)));
        same = refl;
      };
}

-- a run of letters, digits and `_`
pub run_alone : (bytes : List ℕ) (k : Kind)
    → 0 < length bytes → list_all is_name_byte bytes ≡ true → letter_run_of bytes ≡ Is k → IsAlone bytes k
run_alone bytes k some each is =
    record { alone = λ at b rest r w s. Word k bytes some (record { each = each; ends = inr (ends_name b w) }) is s }

behind_sign : (a b : ℕ) → (b ≡ 32) ⊎ (b ≡ 10) → pair_of a b ≡ Apart
unfolding pair_of
behind_sign a b (inl e) = subst (λ z. pair_of a z ≡ Apart) (sym e) (grind (arith, nat_tests))
behind_sign a b (inr e) = subst (λ z. pair_of a z ≡ Apart) (sym e) (grind (arith, nat_tests))

-- a sign of one byte
pub single_alone : (a : ℕ) (k : Kind)
    → is_white a ≡ false → is_name_byte a ≡ false → sign_of a ≡ Some k → IsAlone (a ∷ []) k
single_alone a k no_white no_word is = record {
  alone = λ at b rest r w s. Single k a (record { no_white = no_white; no_word = no_word }) is (behind_sign a b w) s;
}

-- a sign of two bytes
pub double_alone : (a c : ℕ) (k : Kind)
    → is_white a ≡ false → is_name_byte a ≡ false → pair_of a c ≡ Two k → IsAlone (a ∷ c ∷ []) k
double_alone a c k no_white no_word is =
    record { alone = λ at b rest r w s. Double k a c (record { no_white = no_white; no_word = no_word }) is s }
