-- Each state of a declaration has read some tokens, and these can be completed to a declaration.
use Rattle.std.proofs.Common.{◌≡◌, ℕ, pos, List, [], ◌∷◌, ◌++◌, Some, None, subst}
use Rattle.gr_word.specs.declared.variables.Label.{Label}
use Rattle.src_lexer.specs.declared.tokens.Kind.{Kind}
use Rattle.src_tree.specs.declared.trees.Decl.{Decl}
use Rattle.src_parser.specs.Prelude.{keyword_of, Declares, NoMore, Scalar, Array, Heading, Labelled, Typed, Titled, Sizing, Sized, Closing, HeadingState, Begun, Declared, declared, heading_advanced, Goes}
use Rattle.src_parser.proofs.Braces.{same_state}
use Rattle.src_lexer.specs.declared.tokens.Kind.TheVariants as kind

-- declarations and then others
pub declares_both : {ts us : List Kind} {a b : List Decl} → Declares ts a → Declares us b
    → Declares (ts ++ us) (a ++ b)
declares_both NoMore e = e
declares_both (Scalar label name d) e = Scalar label name (declares_both d e)
declares_both (Array label name n d) e = Array label name n (declares_both d e)

-- these tokens of a declaration lead to this state
pub data Heads : Heading → List Kind → Type 0 where
  IsLabelled : (label : Label) → Heads (Labelled label) (keyword_of label ∷ [])
  IsTyped : (label : Label) → Heads (Typed label) (keyword_of label ∷ kind.Int ∷ [])
  IsTitled : (label : Label) (name : List ℕ)
      → Heads (Titled label name) (keyword_of label ∷ kind.Int ∷ kind.Word name ∷ [])
  IsSizing : (label : Label) (name : List ℕ)
      → Heads (Sizing label name) (keyword_of label ∷ kind.Int ∷ kind.Word name ∷ kind.LBracket ∷ [])
  IsSized : (label : Label) (name : List ℕ) (n : ℕ)
      → Heads (Sized label name n)
      (keyword_of label ∷ kind.Int ∷ kind.Word name ∷ kind.LBracket ∷ kind.Num (pos n) ∷ [])
  IsClosing : (label : Label) (name : List ℕ) (n : ℕ)
      → Heads (Closing label name n)
      (keyword_of label ∷ kind.Int ∷ kind.Word name ∷ kind.LBracket ∷ kind.Num (pos n) ∷ kind.RBracket ∷ [])

abbrev pub HeadingStands : HeadingState → List Kind → Type 0
HeadingStands (Begun heading) tokens = Heads heading tokens
HeadingStands (Declared decl) tokens = Declares tokens (decl ∷ [])

went : (tokens : List Kind) (x y : HeadingState) → Goes x ≡ Goes y → HeadingStands x tokens
    → HeadingStands y tokens
went tokens x y e s = subst (λ z. HeadingStands z tokens) (same_state x y e) s

-- a token of a declaration that is read
pub heading_steps : {heading : Heading} {tokens : List Kind} → Heads heading tokens → (k : Kind)
    (s : HeadingState) → heading_advanced heading k ≡ Goes s → HeadingStands s (tokens ++ k ∷ [])
heading_steps (IsLabelled label) kind.Int s e = went _ _ s e (IsTyped label)
heading_steps (IsTyped label) (kind.Word name) s e = went _ _ s e (IsTitled label name)
heading_steps (IsTitled label name) kind.Semi s e = went _ _ s e (Scalar label name NoMore)
heading_steps (IsTitled label name) kind.LBracket s e = went _ _ s e (IsSizing label name)
heading_steps (IsSizing label name) (kind.Num (pos n)) s e = went _ _ s e (IsSized label name n)
heading_steps (IsSized label name n) kind.RBracket s e = went _ _ s e (IsClosing label name n)
heading_steps (IsClosing label name n) kind.Semi s e = went _ _ s e (Array label name n NoMore)
heading_steps other _ s e = absurd (cc)

-- what completes a declaration, with a given name if it has none yet
abbrev pub rest_of : Heading → List ℕ → List Kind
rest_of (Labelled label) x = kind.Int ∷ kind.Word x ∷ kind.Semi ∷ []
rest_of (Typed label) x = kind.Word x ∷ kind.Semi ∷ []
rest_of (Titled label name) x = kind.Semi ∷ []
rest_of (Sizing label name) x = kind.Num (pos 1) ∷ kind.RBracket ∷ kind.Semi ∷ []
rest_of (Sized label name n) x = kind.RBracket ∷ kind.Semi ∷ []
rest_of (Closing label name n) x = kind.Semi ∷ []

abbrev pub whole_of : Heading → List ℕ → Decl
whole_of (Labelled label) x = declared label x None
whole_of (Typed label) x = declared label x None
whole_of (Titled label name) x = declared label name None
whole_of (Sizing label name) x = declared label name (Some 1)
whole_of (Sized label name n) x = declared label name (Some n)
whole_of (Closing label name n) x = declared label name (Some n)

pub heading_completes : {heading : Heading} {tokens : List Kind} → Heads heading tokens → (x : List ℕ)
    → Declares (tokens ++ rest_of heading x) (whole_of heading x ∷ [])
heading_completes (IsLabelled label) x = Scalar label x NoMore
heading_completes (IsTyped label) x = Scalar label x NoMore
heading_completes (IsTitled label name) x = Scalar label name NoMore
heading_completes (IsSizing label name) x = Array label name 1 NoMore
heading_completes (IsSized label name n) x = Array label name n NoMore
heading_completes (IsClosing label name n) x = Array label name n NoMore
