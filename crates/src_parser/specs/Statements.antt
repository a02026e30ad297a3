-- For the proofs and for private clauses, and for parsers of larger languages: how statements are read token by token.
use Rattle.std.specs.Prelude.{ℕ, ◌+◌, nat_lt, Bool, true, false, List, [], ◌∷◌, ◌++◌, length, Option, Some, None}
use Rattle.src_lexer.specs.declared.tokens.Kind.{Kind}
use Rattle.src_tree.specs.Trees.{Tree, Test}
use Rattle.src_parser.specs.Grammar.{Limits}
use Rattle.src_parser.specs.Parts.{Form, ForChoice, ForLoop, Part, Target, Guarding, VariableSet, ElementSet, GuardRead, PartState, Still, Done, part_advanced}
use Rattle.src_parser.specs.Tokenwise.{Advance, Goes, Wrong, mapped, with_braces}
use Rattle.src_lexer.specs.declared.tokens.Kind.TheVariants as kind

-- how a language makes its statements
pub record Makers (S : Type 0) : Type 0 where
  pub variable_set : List ℕ → Tree → S
  pub element_set : List ℕ → Tree → Tree → S
  pub choice : Test → List S → List S → S
  pub repetition : Test → List S → S

-- an open block, with its guard, the statements before its statement, and the first block of its choice
pub data Outer (S : Type 0) : Type 0 where
  InFirst : (test : Test) (before : List S) → Outer S
  InSecond : (test : Test) (first before : List S) → Outer S
  InLoop : (test : Test) (before : List S) → Outer S

-- how far statements were read
pub data Phase (S : Type 0) : Type 0 where
  Ready : Phase S
  MayElse : (test : Test) (first : List S) → Phase S
  InPart : (part : Part) → Phase S
  Guarded : (form : Form) (test : Test) → Phase S
  Otherwise : (test : Test) (first : List S) → Phase S

-- the open blocks, the innermost first, the statements of the innermost, and how far the next one was read
pub data Blocks (S : Type 0) : Type 0 where
  Among : (outer : List (Outer S)) (here : List S) (phase : Phase S) → Blocks S

-- a closing brace
abbrev pub leaving : {S : Type 0} → Makers S → List (Outer S) → List S → Advance (Blocks S)
leaving make [] here = Wrong
leaving make (InFirst test before ∷ outer) here = Goes (Among outer before (MayElse test here))
leaving make (InSecond test first before ∷ outer) here =
    Goes (Among outer (before ++ make.choice test first here ∷ []) Ready)
leaving make (InLoop test before ∷ outer) here = Goes (Among outer (before ++ make.repetition test here ∷ []) Ready)

-- a token between statements
abbrev pub between_statements : {S : Type 0} → Makers S → List (Outer S) → List S → Kind → Advance (Blocks S)
between_statements make outer here (kind.Word name) = Goes (Among outer here (InPart (Target name)))
between_statements make outer here kind.If = Goes (Among outer here (InPart (Guarding ForChoice)))
between_statements make outer here kind.While = Goes (Among outer here (InPart (Guarding ForLoop)))
between_statements make outer here kind.RBrace = leaving make outer here
between_statements make outer here _ = Wrong

-- the statements after a choice that has no second block
abbrev pub chosen : {S : Type 0} → Makers S → List S → Test → List S → List S
chosen make here test first = here ++ make.choice test first [] ∷ []

-- a token after the first block of a choice
abbrev pub elsing : {S : Type 0} → Makers S → List (Outer S) → List S → Test → List S → Kind
    → Advance (Blocks S)
elsing make outer here test first kind.Else = Goes (Among outer here (Otherwise test first))
elsing make outer here test first k = between_statements make outer (chosen make here test first) k

-- a part, or the statement or the guard that it is when it is complete
abbrev pub with_part : {S : Type 0} → Makers S → List (Outer S) → List S → PartState → Blocks S
with_part make outer here (Still part) = Among outer here (InPart part)
with_part make outer here (Done (VariableSet name value)) =
    Among outer (here ++ make.variable_set name value ∷ []) Ready
with_part make outer here (Done (ElementSet name index value)) =
    Among outer (here ++ make.element_set name index value ∷ []) Ready
with_part make outer here (Done (GuardRead form test)) = Among outer here (Guarded form test)

-- the number of open braces, with those outside the statements
abbrev pub depth_in : {S : Type 0} → (outside : ℕ) → List (Outer S) → ℕ
depth_in outside outer = outside + length outer

-- the block after a guard
abbrev pub block_opened : {S : Type 0} → Form → Test → List S → Outer S
block_opened ForChoice test here = InFirst test here
block_opened ForLoop test here = InLoop test here

abbrev pub entering : {S : Type 0} → Limits → (outside : ℕ) → List (Outer S) → List S → Form → Test → Kind
    → Advance (Blocks S)
entering most outside outer here form test kind.LBrace =
    with_braces (nat_lt (depth_in outside outer) most.braces) (Among (block_opened form test here ∷ outer) [] Ready)
entering most outside outer here form test _ = Wrong

abbrev pub otherwise : {S : Type 0} → Limits → (outside : ℕ) → List (Outer S) → List S → Test → List S → Kind
    → Advance (Blocks S)
otherwise most outside outer here test first kind.LBrace =
    with_braces (nat_lt (depth_in outside outer) most.braces) (Among (InSecond test first here ∷ outer) [] Ready)
otherwise most outside outer here test first _ = Wrong

-- a token of a statement
abbrev pub does : {S : Type 0} → Makers S → Limits → (outside : ℕ) → List (Outer S) → List S → Phase S → Kind
    → Advance (Blocks S)
does make most outside outer here Ready k = between_statements make outer here k
does make most outside outer here (MayElse test first) k = elsing make outer here test first k
does make most outside outer here (InPart part) k = mapped (with_part make outer here) (part_advanced most part k)
does make most outside outer here (Guarded form test) k = entering most outside outer here form test k
does make most outside outer here (Otherwise test first) k = otherwise most outside outer here test first k

abbrev pub performed : {S : Type 0} → Makers S → Limits → (outside : ℕ) → Blocks S → Kind → Advance (Blocks S)
performed make most outside (Among outer here phase) k = does make most outside outer here phase k

-- whether the statements that were read are complete
abbrev pub is_complete : {S : Type 0} → Blocks S → Bool
is_complete (Among [] here Ready) = true
is_complete (Among [] here (MayElse test first)) = true
is_complete _ = false

-- the statements that were read, if they are complete
abbrev pub complete_of : {S : Type 0} → Makers S → Blocks S → Option (List S)
complete_of make (Among [] here Ready) = Some here
complete_of make (Among [] here (MayElse test first)) = Some (chosen make here test first)
complete_of make _ = None

-- the number of open braces, with those outside the statements
abbrev pub depth_of : {S : Type 0} → (outside : ℕ) → Blocks S → ℕ
depth_of outside (Among outer here phase) = depth_in outside outer
