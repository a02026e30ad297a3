-- Programs whose canonical text is read as that program again (this project's profile).
use Rattle.std.specs.Prelude.{◌≡◌, ◌≢◌, ℕ, ◌+◌, ◌^◌, ◌<◌, ◌≤◌, pos, negsuc, List, [], ◌∷◌, length, Option, Some, None, IsTrue}
use Rattle.gr_word.specs.Names.{is_name}
use Rattle.gr_word.specs.declared.operations.Op.TheVariants.{Remu}
use Rattle.src_lexer.specs.Pieces.{letter_run_of, Is}
use Rattle.src_tree.specs.declared.trees.Decl.{Decl}
use Rattle.src_tree.specs.Trees.{Tree, Number, Variable, Element, Operation, Test, Statement, SetVariable, SetElement, Choice, Loop, Block, Nothing, Then, Source}
use Rattle.src_tree.specs.Heights.{height_of}
use Rattle.src_tree.specs.Printed.{source_text}
use Rattle.src_parser.specs.Grammar.{operators}
use Rattle.src_lexer.specs.declared.tokens.Kind.TheVariants as kind

-- a name that isn't a keyword
pub record IsFree (name : List ℕ) : Type 0 where
  pub fits : IsTrue (is_name name)
  pub no_keyword : letter_run_of name ≡ Is (kind.Word name)

-- numbers that aren't negative, names that aren't keywords, and no Remu
abbrev pub IsPlain : Tree → Type 0
IsPlain (Number (pos n)) = n < 2 ^ 63
IsPlain (Number (negsuc n)) = ⊥
IsPlain (Variable name) = IsFree name
IsPlain (Element name index) = IsFree name × IsPlain index
IsPlain (Operation op left right) = (op ≢ Remu) × IsPlain left × IsPlain right

pub record IsLow (tree : Tree) : Type 0 where
  pub plain : IsPlain tree
  pub low : height_of tree ≤ 16

pub record TestFits (test : Test) : Type 0 where
  pub left : IsLow test.left
  pub right : IsLow test.right
  pub few : operators test.left + operators test.right ≤ 256

-- a statement inside this many braces, and a block
abbrev mutual
  pub StatementFits : Statement → ℕ → Type 0
  StatementFits (SetVariable name value) depth = IsFree name × IsLow value × (operators value ≤ 256)
  StatementFits (SetElement name index value) depth =
      IsFree name × IsLow index × IsLow value × (operators index + operators value ≤ 256)
  StatementFits (Choice test first second) depth =
      TestFits test × (depth < 32) × BlockFits first (depth + 1) × BlockFits second (depth + 1)
  StatementFits (Loop test body) depth = TestFits test × (depth < 32) × BlockFits body (depth + 1)

  pub BlockFits : Block → ℕ → Type 0
  BlockFits Nothing depth = Unit {0}
  BlockFits (Then statement rest) depth = StatementFits statement depth × BlockFits rest depth

abbrev pub SizeFits : Option ℕ → Type 0
SizeFits None = Unit {0}
SizeFits (Some n) = n < 2 ^ 63

abbrev pub DeclsFit : List Decl → Type 0
DeclsFit [] = Unit {0}
DeclsFit (decl ∷ decls) = IsFree decl.name × SizeFits decl.length × DeclsFit decls

pub record IsPrintable (program : Source) : Type 0 where
  pub decls : DeclsFit program.decls
  pub body : BlockFits program.body 0
  pub short : length (source_text program) ≤ 2 ^ 20
