-- The grammar of statements, for any language.
use Rattle.std.proofs.Common.{◌≡◌, ℕ, ◌+◌, ◌<◌, ◌≤◌, List, [], ◌∷◌, ◌++◌, refl, subst, append_assoc}
use Rattle.src_lexer.specs.declared.tokens.Kind.{Kind}
use Rattle.src_tree.specs.Prelude.{Tree, Test}
use Rattle.src_parser.specs.Prelude.{Limits, operators, SpellsTree, Compares, Makers}
use Rattle.src_lexer.specs.declared.tokens.Kind.TheVariants as kind

-- tokens that are statements in order, inside `depth` open braces; `Own` are the statements that the language has
-- besides assignments, choices and loops
pub data Spelled {S : Type 0} (make : Makers S) (Own : List Kind → S → Type 0) (most : Limits)
    : (depth : ℕ) → List Kind → List S → Type 0 where
  NoneLeft : {depth : ℕ} → Spelled make Own most depth [] []
  Assigns : {depth : ℕ} {tokens rest : List Kind} {value : Tree} {others : List S} (name : List ℕ)
      → SpellsTree most.brackets 0 0 tokens value → operators value ≤ most.operators
      → Spelled make Own most depth rest others
      → Spelled make Own most depth (kind.Word name ∷ kind.Assign ∷ (tokens ++ kind.Semi ∷ rest))
      (make.variable_set name value ∷ others)
  Stores : {depth : ℕ} {at tokens rest : List Kind} {index value : Tree} {others : List S} (name : List ℕ)
      → SpellsTree most.brackets 1 0 at index → SpellsTree most.brackets 0 0 tokens value
      → operators index + operators value ≤ most.operators → Spelled make Own most depth rest others
      → Spelled make Own most depth
      (kind.Word name ∷ kind.LBracket ∷ (at ++ kind.RBracket ∷ kind.Assign ∷ (tokens ++ kind.Semi ∷ rest)))
      (make.element_set name index value ∷ others)
  Decides : {depth : ℕ} {guard tokens rest : List Kind} {test : Test} {first others : List S}
      → Compares most guard test → depth < most.braces → Spelled make Own most (depth + 1) tokens first
      → Spelled make Own most depth rest others
      → Spelled make Own most depth
      (kind.If ∷ kind.LParen ∷ (guard ++ kind.RParen ∷ kind.LBrace ∷ (tokens ++ kind.RBrace ∷ rest)))
      (make.choice test first [] ∷ others)
  DecidesElse : {depth : ℕ} {guard tokens between rest : List Kind} {test : Test} {first second others : List S}
      → Compares most guard test → depth < most.braces → Spelled make Own most (depth + 1) tokens first
      → Spelled make Own most (depth + 1) between second → Spelled make Own most depth rest others
      → Spelled make Own most depth
      (kind.If ∷ kind.LParen ∷ (guard ++ kind.RParen ∷ kind.LBrace ∷
      (tokens ++ kind.RBrace ∷ kind.Else ∷ kind.LBrace ∷ (between ++ kind.RBrace ∷ rest))))
      (make.choice test first second ∷ others)
  Loops : {depth : ℕ} {guard tokens rest : List Kind} {test : Test} {body others : List S}
      → Compares most guard test → depth < most.braces → Spelled make Own most (depth + 1) tokens body
      → Spelled make Own most depth rest others
      → Spelled make Own most depth
      (kind.While ∷ kind.LParen ∷ (guard ++ kind.RParen ∷ kind.LBrace ∷ (tokens ++ kind.RBrace ∷ rest)))
      (make.repetition test body ∷ others)
  Adds : {depth : ℕ} {tokens rest : List Kind} {s : S} {others : List S} → Own tokens s
      → Spelled make Own most depth rest others → Spelled make Own most depth (tokens ++ rest) (s ∷ others)

module _ {S : Type 0} {make : Makers S} {Own : List Kind → S → Type 0} {most : Limits} where
  pub spelled_at : {depth : ℕ} {ss : List S} (xs ys : List Kind) → xs ≡ ys → Spelled make Own most depth xs ss
      → Spelled make Own most depth ys ss
  spelled_at {depth} {ss} xs ys e w = subst (λ z. Spelled make Own most depth z ss) e w

  -- statements, and then others
  pub spelled_both : {depth : ℕ} {ts us : List Kind} {a b : List S} → Spelled make Own most depth ts a
      → Spelled make Own most depth us b → Spelled make Own most depth (ts ++ us) (a ++ b)
  spelled_both NoneLeft v = v
  spelled_both {us = us} (Assigns {tokens = tokens} {rest = rest} name s fits w) v =
      spelled_at _ _ (simp append_assoc refl) (Assigns name s fits (spelled_both w v))
  spelled_both {us = us} (Stores {at = at} {tokens = tokens} {rest = rest} name i s fits w) v =
      spelled_at _ _ (simp append_assoc refl) (Stores name i s fits (spelled_both w v))
  spelled_both {us = us} (Decides {guard = guard} {tokens = tokens} {rest = rest} g room inner w) v =
      spelled_at _ _ (simp append_assoc refl) (Decides g room inner (spelled_both w v))
  spelled_both {us = us}
      (DecidesElse {guard = guard} {tokens = tokens} {between = between} {rest = rest} g room inner other w) v =
      spelled_at _ _ (simp append_assoc refl) (DecidesElse g room inner other (spelled_both w v))
  spelled_both {us = us} (Loops {guard = guard} {tokens = tokens} {rest = rest} g room inner w) v =
      spelled_at _ _ (simp append_assoc refl) (Loops g room inner (spelled_both w v))
  spelled_both {us = us} (Adds {tokens = tokens} {rest = rest} own w) v =
      spelled_at _ _ (simp append_assoc refl) (Adds own (spelled_both w v))
