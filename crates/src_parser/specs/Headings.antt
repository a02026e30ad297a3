-- For the proofs and for private clauses, and for parsers of larger languages: how a declaration is read token by
-- token, after its label.
use Rattle.std.specs.Prelude.{ℕ, pos, List, Option, Some, None}
use Rattle.gr_word.specs.declared.variables.Label.{Label}
use Rattle.src_lexer.specs.declared.tokens.Kind.{Kind}
use Rattle.src_tree.specs.declared.trees.Decl.{Decl}
use Rattle.src_parser.specs.Tokenwise.{Advance, Goes, Wrong}
use Rattle.src_lexer.specs.declared.tokens.Kind.TheVariants as kind

-- how far a declaration was read
pub data Heading : Type 0 where
  Labelled : (label : Label) → Heading
  Typed : (label : Label) → Heading
  Titled : (label : Label) (name : List ℕ) → Heading
  Sizing : (label : Label) (name : List ℕ) → Heading
  Sized : (label : Label) (name : List ℕ) (n : ℕ) → Heading
  Closing : (label : Label) (name : List ℕ) (n : ℕ) → Heading

pub data HeadingState : Type 0 where
  Begun : (heading : Heading) → HeadingState
  Declared : (decl : Decl) → HeadingState

-- a declaration
abbrev pub declared : Label → List ℕ → Option ℕ → Decl
declared label name size = record { name = name; label = label; length = size }

-- a token of a declaration
abbrev pub heading_advanced : Heading → Kind → Advance HeadingState
heading_advanced (Labelled label) kind.Int = Goes (Begun (Typed label))
heading_advanced (Typed label) (kind.Word name) = Goes (Begun (Titled label name))
heading_advanced (Titled label name) kind.Semi = Goes (Declared (declared label name None))
heading_advanced (Titled label name) kind.LBracket = Goes (Begun (Sizing label name))
heading_advanced (Sizing label name) (kind.Num (pos n)) = Goes (Begun (Sized label name n))
heading_advanced (Sized label name n) kind.RBracket = Goes (Begun (Closing label name n))
heading_advanced (Closing label name n) kind.Semi = Goes (Declared (declared label name (Some n)))
heading_advanced other _ = Wrong
