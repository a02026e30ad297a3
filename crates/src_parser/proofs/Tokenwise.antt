-- A parser that reads token by token: what its advances say about the grammar, from a few laws of single tokens.
use Rattle.std.proofs.Common.{◌≡◌, ◌≢◌, ◌⊎◌, inl, inr, ℕ, ◌+◌, ◌<◌, ◌≤◌, List, [], ◌∷◌, ◌++◌, Option, Some, None, refl, sym, ap, ◌∙◌, subst, append_assoc, arith}
use Rattle.std.proofs.lemmas.Bool.{cases_lt}
use Rattle.std.proofs.lemmas.List.{append-nil, map-append}
use Rattle.src_lexer.specs.declared.tokens.Kind.{Kind}
use Rattle.src_lexer.specs.declared.tokens.Token.{Token}
use Rattle.src_parser.specs.Prelude.{Limits, limits, token_kinds, Shallow, Advance, Goes, Wrong, TooMuch, then_advance, advances, after_advance, parsed, Completes, Begins}
use Rattle.src_lexer.specs.declared.tokens.Kind.TheVariants as kind

-- there is room for what is needed
pub record Fits (need most : Limits) : Type 0 where
  pub brackets : need.brackets ≤ most.brackets
  pub braces : need.braces ≤ most.braces
  pub operators : need.operators ≤ most.operators

-- the open braces before and after a token that is read
abbrev pub Counted : Kind → (most before after : ℕ) → Type 0
Counted kind.LBrace most before after = (before < most) × (after ≡ before + 1)
Counted kind.RBrace most before after = before ≡ after + 1
Counted _ most before after = after ≡ before

-- the effect of a token depends on the limits in only one way: it is read if there is room, and exceeds a limit
-- otherwise; the limit of braces matters only for a `{`
pub data Shape (S : Type 0) (k : Kind) (count : ℕ) (f : Limits → Advance S) : Type 0 where
  Always : (t : Advance S) → t ≢ TooMuch → ((most : Limits) → f most ≡ t) → Shape S k count f
  Where : (need : Limits) (next : S) → ((most : Limits) → Fits need most → f most ≡ Goes next)
      → ((most : Limits) → (f most ≡ TooMuch) ⊎ Fits need most)
      → (need.braces ≡ 0) ⊎ ((k ≡ kind.LBrace) × (need.braces ≡ count + 1)) → Shape S k count f

-- what is read within some limits is read within wider ones
wider_shape : {S : Type 0} {k : Kind} {count : ℕ} {f : Limits → Advance S}
    → Shape S k count f → (most wide : Limits) (next : S) → Fits most wide → f most ≡ Goes next → f wide
    ≡ Goes next
wider_shape (Always t h is) most wide next fits e = let a = is most in let b = is wide in cc
wider_shape {f = f} (Where need s goes much braces) most wide next fits e =
    elim (much most) [
      | inl m ↦ absurd (cc)
      | inr w ↦ (let a = w.brackets in let b = w.braces in let c = w.operators in let p = fits.brackets in
          let q = fits.braces in let r = fits.operators in
          let x : f wide ≡ Goes s =
          goes wide (record { brackets = omega arith; braces = omega arith; operators = omega arith }) in
          let y : f most ≡ Goes s = goes most w in cc)
    ]

-- for any limits, a token that is read leads to the same state, or exceeds a limit
same_shape : {S : Type 0} {k : Kind} {count : ℕ} {f : Limits → Advance S} → Shape S k count f
    → (most other : Limits) (next : S)
    → f most ≡ Goes next → (f other ≡ Goes next) ⊎ (f other ≡ TooMuch)
same_shape (Always t h is) most other next e = let a = is most in let b = is other in inl (cc)
same_shape {f = f} (Where need s goes much braces) most other next e =
    elim (much most) [
      | inl m ↦ absurd (cc)
      | inr w ↦ elim (much other) [
        | inl n ↦ inr n
        | inr v ↦ (let x : f other ≡ Goes s = goes other v in let y : f most ≡ Goes s = goes most w in inl (cc))
      ]
    ]

-- a token that is wrong for some limits is wrong for any
wrong_shape : {S : Type 0} {k : Kind} {count : ℕ} {f : Limits → Advance S}
    → Shape S k count f → (most other : Limits) → f most ≡ Wrong → f other ≡ Wrong
wrong_shape (Always t h is) most other e = let a = is most in let b = is other in cc
wrong_shape {f = f} (Where need s goes much braces) most other e =
    elim (much most) [ inl m ↦ absurd (cc) | inr w ↦ (let y : f most ≡ Goes s = goes most w in absurd (cc)) ]

-- what exceeds the limits is read within some wider limits
pub record ReadWider (S : Type 0) (most : Limits) (f : Limits → Advance S) : Type 0 where
  pub wide : Limits
  pub next : S
  pub fits : Fits most wide
  pub goes : f wide ≡ Goes next

deep_shape : {S : Type 0} {k : Kind} {count : ℕ} {f : Limits → Advance S}
    → Shape S k count f → (most : Limits) → f most ≡ TooMuch → ReadWider S most f
deep_shape (Always t h is) most e = absurd (h (let a = is most in cc))
deep_shape (Where need s goes much braces) most e = record {
  wide = record {
    brackets = most.brackets + need.brackets;
    braces = most.braces + need.braces;
    operators = most.operators + need.operators;
  };
  next = s;
  fits = record { brackets = omega arith; braces = omega arith; operators = omega arith };
  goes = goes _ (record { brackets = omega arith; braces = omega arith; operators = omega arith });
}

-- if two limits differ only in the braces, only a brace can exceed one and not the other
brace_shape : {S : Type 0} {k : Kind} {count : ℕ} {f : Limits → Advance S} → Shape S k count f
    → (most other : Limits) (next : S)
    → most.brackets ≡ other.brackets → most.operators ≡ other.operators
    → f most ≡ TooMuch → f other ≡ Goes next → (k ≡ kind.LBrace) × (most.braces ≤ count)
brace_shape (Always t h is) most other next p q e g = absurd (h (let a = is most in cc))
brace_shape {k} {count} {f} (Where need s goes much (inl none)) most other next p q e g =
    elim (much other) [
      | inl m ↦ absurd (cc)
      | inr w ↦ (let a = w.brackets in let c = w.operators in
          let y : f most ≡ Goes s =
          goes most (record { brackets = omega arith; braces = omega arith; operators = omega arith }) in absurd (cc))
    ]
brace_shape {k} {count} {f} (Where need s goes much (inr some)) most other next p q e g =
    elim (much other) [
      | inl m ↦ absurd (cc)
      | inr w ↦ (
        some.0,
        elim (cases_lt count most.braces) [
          | inr le ↦ le
          | inl lt ↦ (let a = w.brackets in let c = w.operators in let b = some.1 in
              let y : f most ≡ Goes s =
              goes most (record { brackets = omega arith; braces = omega arith; operators = omega arith }) in
              absurd (cc))
        ],
      )
    ]

shallow_step : (most before after : ℕ) (k : Kind) (ks : List Kind)
    → Counted k most before after → Shallow most after ks → Shallow most before (k ∷ ks)
shallow_step most before after kind.LBrace ks c s = (c.0, subst (λ n. Shallow most n ks) c.1 s)
shallow_step most before after kind.RBrace ks c s = subst (λ n. Shallow most n ks) (omega arith) s
shallow_step most before after _ ks c s = subst (λ n. Shallow most n ks) c s

fewer : (most before after : ℕ) (k : Kind) → Counted k most before after → before ≤ most → after ≤ most
fewer most before after kind.LBrace c h = let a = c.0 in let b = c.1 in omega arith
fewer most before after kind.RBrace c h = omega arith
fewer most before after _ c h = omega arith

deeper_step : (most before after : ℕ) (k : Kind) (ks : List Kind)
    → Counted k most before after → Shallow most before (k ∷ ks) → Shallow most after ks
deeper_step most before after kind.LBrace ks c s = subst (λ n. Shallow most n ks) (sym c.1) s.1
deeper_step most before after kind.RBrace ks c s = subst (λ n. Shallow most n ks) (omega arith) s
deeper_step most before after _ ks c s = subst (λ n. Shallow most n ks) (sym c) s

-- what is known about single tokens, and about the states to which tokens lead (`Standing`)
pub record Laws {S P : Type 0} (advanced : Limits → S → Kind → Advance S) (gives : S → Option P)
    (open_braces : S → ℕ)
    (start : S) (Sentence : Limits → List Kind → P → Type 0) (Standing : Limits → S → List Kind → Type 0)
    : Type 0 where
  pub shape : (state : S) (k : Kind) → Shape S k (open_braces state) (λ most. advanced most state k)
  pub counted : (most : Limits) (state : S) (k : Kind) (next : S) → advanced most state k ≡ Goes next
      → Counted k most.braces (open_braces state) (open_braces next)
  pub starts : open_braces start ≡ 0
  pub nothing_read : (most : Limits) → Standing most start []
  pub steps : (most : Limits) (state : S) (tokens : List Kind) → Standing most state tokens
      → (k : Kind) (next : S) → advanced most state k ≡ Goes next → Standing most next (tokens ++ k ∷ [])
  pub completes : (most : Limits) (state : S) (tokens : List Kind) → Standing most state tokens
      → open_braces state < most.braces → Completes Sentence most tokens
  pub finished : (most : Limits) (state : S) (tokens : List Kind) → Standing most state tokens
      → (tree : P) → gives state ≡ Some tree → Sentence most tokens tree
  pub read : (most : Limits) (tokens : List Kind) (tree : P) → Sentence most tokens tree
      → parsed advanced gives most start tokens ≡ Some tree

module _ {S P : Type 0} {advanced : Limits → S → Kind → Advance S} {gives : S → Option P} {open_braces : S → ℕ}
    {start : S} {Sentence : Limits → List Kind → P → Type 0} {Standing : Limits → S → List Kind → Type 0}
    (laws : Laws advanced gives open_braces start Sentence Standing) where
  abbrev goes_over : Limits → S → List Kind → Advance S
  goes_over = advances advanced

  abbrev tree_of : Limits → S → List Kind → Option P
  tree_of = parsed advanced gives

  abbrev ProgramBegins : Limits → List Kind → Type 0
  ProgramBegins = Begins Sentence

  abbrev program_of : S → Option P
  program_of = gives

  stands_step : (most : Limits) (tokens : List Kind) (k : Kind) (ks : List Kind) (state : S)
      (t : Advance S)
      (last : S) → ((next : S) → Standing most next (tokens ++ k ∷ []) → goes_over most next ks ≡ Goes last
      → Standing most last ((tokens ++ k ∷ []) ++ ks)) → Standing most state tokens → advanced most state k ≡ t
      → then_advance t (λ next. goes_over most next ks) ≡ Goes last → Standing most last (tokens ++ k ∷ ks)
  stands_step most tokens k ks state (Goes next) last rest s is e =
      subst (λ z. Standing most last z) (append_assoc tokens (k ∷ []) ks)
      (rest next (laws.steps most state tokens s k next is) e)
  stands_step most tokens k ks state Wrong last rest s is e = absurd (cc)
  stands_step most tokens k ks state TooMuch last rest s is e = absurd (cc)

  stands_many : (most : Limits) (ks tokens : List Kind) (state last : S) → Standing most state tokens
      → goes_over most state ks ≡ Goes last → Standing most last (tokens ++ ks)
  stands_many most [] tokens state last s e =
      let f : state ≡ last = cc in
      subst (λ z. Standing most z (tokens ++ [])) f (subst (λ z. Standing most state z) (sym (append-nil tokens)) s)
  stands_many most (k ∷ ks) tokens state last s e =
      stands_step most tokens k ks state (advanced most state k) last
      (λ next r g. stands_many most ks (tokens ++ k ∷ []) next last r g) s refl e

  -- each state to which tokens lead has read them
  stands : (most : Limits) (tokens : List Kind) (last : S) → goes_over most start tokens ≡ Goes last
      → Standing most last tokens
  stands most tokens last e = stands_many most tokens [] start last (laws.nothing_read most) e

  -- tokens that were read are within the braces
  pub record Read (most : Limits) (state : S) (tokens : List Kind) (last : S) : Type 0 where
    pub shallow : (more : List Kind)
        → Shallow most.braces (open_braces last) more → Shallow most.braces (open_braces state) (tokens ++ more)
    pub within : open_braces state ≤ most.braces → open_braces last ≤ most.braces
    pub deeper : (more : List Kind)
        → Shallow most.braces (open_braces state) (tokens ++ more) → Shallow most.braces (open_braces last) more

  read_step : (most : Limits) (state : S) (k : Kind) (ks : List Kind) (t : Advance S) (last : S)
      → ((next : S) → goes_over most next ks ≡ Goes last → Read most next ks last)
      → advanced most state k ≡ t → then_advance t (λ next. goes_over most next ks) ≡ Goes last
      → Read most state (k ∷ ks) last
  read_step most state k ks (Goes next) last rest is e =
      let c = laws.counted most state k next is in
      let r = rest next e in
      record {
        shallow = λ more s. shallow_step most.braces (open_braces state) (open_braces next) k (ks ++ more) c
            (r.shallow more s);
        within = λ h. r.within (fewer most.braces (open_braces state) (open_braces next) k c h);
        deeper = λ more s. r.deeper more (deeper_step most.braces (open_braces state) (open_braces next) k
            (ks ++ more) c s);
      }
  read_step most state k ks Wrong last rest is e = absurd (cc)
  read_step most state k ks TooMuch last rest is e = absurd (cc)

  -- tokens that are read are within the limit of braces
  pub read : (most : Limits) (tokens : List Kind) (state last : S)
      → goes_over most state tokens ≡ Goes last → Read most state tokens last
  read most [] state last e =
      let f : state ≡ last = cc in
      subst (λ z. Read most state [] z) f (record { shallow = λ more s. s; within = λ h. h; deeper = λ more s. s })
  read most (k ∷ ks) state last e =
      read_step most state k ks (advanced most state k) last (λ next g. read most ks next last g) refl e

  wider_step : (most wide : Limits) (k : Kind) (ks : List Kind) (state : S) (t : Advance S)
      (last : S) → Fits most wide
      → ((next : S) → goes_over most next ks ≡ Goes last → goes_over wide next ks ≡ Goes last) → advanced most state k
      ≡ t
      → then_advance t (λ next. goes_over most next ks) ≡ Goes last → goes_over wide state (k ∷ ks) ≡ Goes last
  wider_step most wide k ks state (Goes next) last fits rest is e =
      ap (λ t. then_advance t (λ n. goes_over wide n ks)) (wider_shape (laws.shape state k) most wide next fits is)
      ∙ rest next e
  wider_step most wide k ks state Wrong last fits rest is e = absurd (cc)
  wider_step most wide k ks state TooMuch last fits rest is e = absurd (cc)

  pub advances_wider : (most wide : Limits) (ks : List Kind) (state last : S)
      → Fits most wide → goes_over most state ks ≡ Goes last → goes_over wide state ks ≡ Goes last
  advances_wider most wide [] state last fits e = e
  advances_wider most wide (k ∷ ks) state last fits e =
      wider_step most wide k ks state (advanced most state k) last fits
      (λ next g. advances_wider most wide ks next last fits g) refl e

  -- tokens that were read begin a sentence
  pub begins : (most : Limits) (tokens : List Kind) (last : S)
      → goes_over most start tokens ≡ Goes last → ProgramBegins most tokens
  begins most tokens last e =
      let wide : Limits = record { brackets = most.brackets; braces = most.braces + 1; operators = most.operators } in
      let r = read most tokens start last e in
      let fits : Fits most wide = record { brackets = omega arith; braces = omega arith; operators = omega arith } in
      let begun = laws.starts in
      let within = r.within (omega arith) in
      let c = laws.completes wide last tokens (stands wide tokens last
      (advances_wider most wide tokens start last fits e))
      (omega arith) in
      record {
        shallow = subst (λ z. Shallow most.braces 0 z) (append-nil tokens)
            (subst (λ n. Shallow most.braces n (tokens ++ [])) laws.starts (r.shallow [] tt));
        braces = most.braces + 1;
        more = c.more;
        tree = c.tree;
        sentence = c.sentence;
      }

  through_step : (most other : Limits) (k : Kind) (ks more : List Kind) (state : S) (t : Advance S)
      (last : S)
      (p : P) → ((next : S) → goes_over most next ks ≡ Goes last → tree_of other next (ks ++ more) ≡ Some p
      → tree_of other last more ≡ Some p) → advanced most state k ≡ t → then_advance t (λ next. goes_over most next ks)
      ≡ Goes last
      → after_advance (advanced other state k) (λ next. tree_of other next (ks ++ more)) ≡ Some p
      → tree_of other last more ≡ Some p
  through_step most other k ks more state (Goes next) last p rest is e w =
      elim (same_shape (laws.shape state k) most other next is) [
        | inl g ↦ rest next e (sym (ap (λ t. after_advance t (λ n. tree_of other n (ks ++ more))) g) ∙ w)
        | inr m ↦
            (let f : None ≡ Some p = sym (ap (λ t. after_advance t (λ n. tree_of other n (ks ++ more))) m) ∙ w in
            absurd (cc))
      ]
  through_step most other k ks more state Wrong last p rest is e w = absurd (cc)
  through_step most other k ks more state TooMuch last p rest is e w = absurd (cc)

  -- for any limits, a sentence is read through the states to which its first tokens lead
  pub through : (most other : Limits) (ks more : List Kind) (state last : S) (p : P)
      → goes_over most state ks ≡ Goes last → tree_of other state (ks ++ more) ≡ Some p → tree_of other last more
      ≡ Some p
  through most other [] more state last p e w =
      let f : state ≡ last = cc in subst (λ z. tree_of other z more ≡ Some p) f w
  through most other (k ∷ ks) more state last p e w =
      through_step most other k ks more state (advanced most state k) last p
      (λ next g v. through most other ks more next last p g v) refl e w

  goes_on : (most other : Limits) (tokens : List Kind) (k : Kind) (last : S) (more : List Kind)
      (p : P)
      → goes_over most start tokens ≡ Goes last
      → Sentence other ((tokens ++ k ∷ []) ++ more) p → tree_of other last (k ∷ more) ≡ Some p
  goes_on most other tokens k last more p e s =
      through most other tokens (k ∷ more) start last p e
      (sym (ap (λ z. tree_of other start z) (append_assoc tokens (k ∷ []) more)) ∙ laws.read _ _ _ s)

  -- together with a token that is wrong, tokens begin no sentence
  pub wrong_begins : (most other : Limits) (tokens : List Kind) (k : Kind) (last : S)
      → goes_over most start tokens ≡ Goes last → advanced most last k ≡ Wrong → ProgramBegins other (tokens ++ k ∷ [])
      → ⊥
  wrong_begins most other tokens k last e w b =
      let o : Limits = record { brackets = other.brackets; braces = b.braces; operators = other.operators } in
      let f = goes_on most o tokens k last b.more b.tree e b.sentence in
      let g : None ≡ Some b.tree =
      sym (ap (λ t. after_advance t (λ n. tree_of o n b.more)) (wrong_shape (laws.shape last k) most o w)) ∙ f in
      absurd (cc)

  brace_fits : (most count : ℕ) (k : Kind) → k ≡ kind.LBrace → most ≤ count → Shallow most count (k ∷ []) → ⊥
  brace_fits most count k is h s =
      let f : Shallow most count (kind.LBrace ∷ []) = subst (λ z. Shallow most count (z ∷ [])) is s in
      let g = f.0 in omega arith

  much_step : (most other : Limits) (tokens : List Kind) (k : Kind) (last : S)
      (more : List Kind) (p : P)
      (t : Advance S) → most.brackets ≡ other.brackets → most.operators ≡ other.operators
      → advanced other last k ≡ t → after_advance t (λ n. tree_of other n more) ≡ Some p → advanced most last k
      ≡ TooMuch
      → Shallow most.braces (open_braces last) (k ∷ []) → ⊥
  much_step most other tokens k last more p (Goes next) a b is w e s =
      let f = brace_shape (laws.shape last k) most other next a b e is in brace_fits most.braces
      (open_braces last) k f.0 f.1 s
  much_step most other tokens k last more p Wrong a b is w e s = absurd (cc)
  much_step most other tokens k last more p TooMuch a b is w e s = absurd (cc)

  -- together with a token that exceeds the limits, tokens begin no sentence within the limits
  pub much_begins : (most : Limits) (tokens : List Kind) (k : Kind) (last : S)
      → goes_over most start tokens ≡ Goes last → advanced most last k ≡ TooMuch → ProgramBegins most (tokens ++ k ∷ [])
      → ⊥
  much_begins most tokens k last e w b =
      let o : Limits = record { brackets = most.brackets; braces = b.braces; operators = most.operators } in
      let f = goes_on most o tokens k last b.more b.tree e b.sentence in
      much_step most o tokens k last b.more b.tree (advanced o last k) refl refl refl f w
      ((read most tokens start last e).deeper (k ∷ [])
      (subst (λ n. Shallow most.braces n (tokens ++ k ∷ [])) (sym laws.starts) b.shallow))

  -- one more token
  pub advance_at : (t : Advance S) (next : S → Advance S) (last : S) → t ≡ Goes last → then_advance t next ≡ next last
  advance_at t next last e = ap (λ z. then_advance z next) e

  more_step : (most : Limits) (k : Kind) (ks : List Kind) (t : Advance S) (last next : S)
      → ((s : S) → goes_over most s ks ≡ Goes last → goes_over most s (ks ++ k ∷ []) ≡ Goes next)
      → then_advance t (λ s. goes_over most s ks) ≡ Goes last → then_advance t (λ s. goes_over most s (ks ++ k ∷ []))
      ≡ Goes next
  more_step most k ks (Goes s) last next rest e = rest s e
  more_step most k ks Wrong last next rest e = absurd (cc)
  more_step most k ks TooMuch last next rest e = absurd (cc)

  -- one more advance
  pub one_more_advance : (most : Limits) (ks : List Kind) (k : Kind) (state last next : S)
      → goes_over most state ks ≡ Goes last → advanced most last k ≡ Goes next → goes_over most state (ks ++ k ∷ [])
      ≡ Goes next
  one_more_advance most [] k state last next e g =
      let f : state ≡ last = cc in
      advance_at (advanced most state k) (λ s. Goes s) next (subst (λ z. advanced most z k ≡ Goes next) (sym f) g)
  one_more_advance most (k1 ∷ ks) k state last next e g =
      more_step most k ks (advanced most state k1) last next (λ s h. one_more_advance most ks k s last next h g) e

  -- tokens that begin a sentence within wider limits
  pub record WiderBegins (tokens : List Kind) : Type 0 where
    pub wide : Limits
    pub begins : ProgramBegins wide tokens

  -- together with a token that exceeds the limits, tokens begin a sentence within wider limits
  pub wider_begins : (most : Limits) (tokens : List Kind) (k : Kind) (last : S)
      → goes_over most start tokens ≡ Goes last → advanced most last k ≡ TooMuch → WiderBegins (tokens ++ k ∷ [])
  wider_begins most tokens k last e w =
      let d = deep_shape (laws.shape last k) most w in
      let f = advances_wider most d.wide tokens start last d.fits e in
      record {
        wide = d.wide;
        begins = begins d.wide (tokens ++ k ∷ []) d.next (one_more_advance d.wide tokens k start last d.next f d.goes);
      }

  -- tokens that lead to a complete tree are a sentence
  pub whole_sentence : (most : Limits) (tokens : List Kind) (last : S) (p : P)
      → goes_over most start tokens ≡ Goes last → program_of last ≡ Some p → Sentence most tokens p
  whole_sentence most tokens last p e w = laws.finished most last tokens (stands most tokens last e) p w

  -- tokens that lead to no complete tree aren't a sentence
  pub no_sentence : (most : Limits) (tokens : List Kind) (last : S) (p : P)
      → goes_over most start tokens ≡ Goes last → program_of last ≡ None → Sentence most tokens p → ⊥
  no_sentence most tokens last p e w s =
      let f =
      through most most tokens [] start last p e
      (ap (λ z. tree_of most start z) (append-nil tokens) ∙ laws.read _ _ _ s) in
      absurd (cc)

  -- the tokens of a sentence are read one by one
  pub record Reads (most : Limits) (tokens : List Kind) (state : S) : Type 0 where
    pub last : S
    pub advances_to : goes_over most state tokens ≡ Goes last

  reads_step : (most : Limits) (k : Kind) (ks more : List Kind) (state : S) (t : Advance S) (p : P)
      → ((next : S) → tree_of most next (ks ++ more) ≡ Some p → Reads most ks next) → advanced most state k ≡ t
      → after_advance t (λ next. tree_of most next (ks ++ more)) ≡ Some p → Reads most (k ∷ ks) state
  reads_step most k ks more state (Goes next) p rest is e =
      let r = rest next e in
      record { last = r.last; advances_to = ap (λ t. then_advance t (λ n. goes_over most n ks)) is ∙ r.advances_to }
  reads_step most k ks more state Wrong p rest is e = absurd (cc)
  reads_step most k ks more state TooMuch p rest is e = absurd (cc)

  reads_front : (most : Limits) (ks more : List Kind) (state : S) (p : P)
      → tree_of most state (ks ++ more) ≡ Some p → Reads most ks state
  reads_front most [] more state p e = record { last = state; advances_to = refl }
  reads_front most (k ∷ ks) more state p e =
      reads_step most k ks more state (advanced most state k) p (λ next g. reads_front most ks more next p g) refl e

  -- each prefix of a sentence begins one
  pub front_begins : (most : Limits) (front back : List Kind) (p : P)
      → Sentence most (front ++ back) p → ProgramBegins most front
  front_begins most front back p s =
      let r = reads_front most front back start p (laws.read _ _ _ s) in begins most front r.last r.advances_to

  -- each prefix of a sentence, with the next token, begins one
  pub next_begins : (tokens before after : List Token) (token : Token) (p : P) → tokens ≡ before ++ token ∷ after
      → Sentence limits (token_kinds tokens) p → ProgramBegins limits (token_kinds before ++ token.kind ∷ [])
  next_begins tokens before after token p split s =
      let f : token_kinds tokens ≡ (token_kinds before ++ token.kind ∷ []) ++ token_kinds after =
      ap token_kinds split ∙ (map-append (λ (t : Token). t.kind) before (token ∷ after)
      ∙ sym (append_assoc (token_kinds before) (token.kind ∷ []) (token_kinds after))) in
      front_begins limits (token_kinds before ++ token.kind
      ∷ []) (token_kinds after) p (subst (λ z. Sentence limits z p) f s)
