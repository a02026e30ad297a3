-- The grammar of the source language: which tokens are an expression, a guard, a block, a program, and with which tree
-- (this project's profile of the source language of GhostRider, ASPLOS 2015; docs/FORMATS.md has it as a table).
use Rattle.std.specs.Prelude.{◌≡◌, ℕ, ◌+◌, ◌<◌, ◌≤◌, pos, List, [], ◌∷◌, ◌++◌, Option, Some, None}
use Rattle.gr_word.specs.declared.operations.Op.{Op}
use Rattle.gr_word.specs.declared.operations.Op.TheVariants.{Add, Sub, Mul, Div, Rem, Remu, And, Or, Xor, Shl, Shr}
use Rattle.gr_word.specs.declared.operations.Cmp.{Cmp}
use Rattle.gr_word.specs.declared.operations.Cmp.TheVariants.{Eq, Ne, Lt, Le, Gt, Ge}
use Rattle.gr_word.specs.declared.variables.Label.{Label}
use Rattle.gr_word.specs.declared.variables.Label.TheVariants.{Public, Secret}
use Rattle.src_lexer.specs.declared.tokens.Kind.{Kind}
use Rattle.src_tree.specs.declared.trees.Decl.{Decl}
use Rattle.src_tree.specs.Trees.{Tree, Number, Variable, Element, Operation, Test, Block, Nothing, Then, SetVariable, SetElement, Choice, Loop, Source}
use Rattle.src_lexer.specs.declared.tokens.Kind.TheVariants as kind

-- limits of nesting: how many parentheses, brackets and signs may be open in one statement's own expressions, how many
-- braces may be open, and how many operators and signs one statement's own expressions may have
pub record Limits : Type 0 where
  pub brackets : ℕ
  pub braces : ℕ
  pub operators : ℕ

-- the limits of the language
-- Rules: source/brackets, source/braces, source/operators.
abbrev pub limits : Limits
limits = record { brackets = 32; braces = 32; operators = 256 }

-- the operation of a sign between two operands
abbrev pub operator_of : Kind → Option Op
operator_of kind.Plus = Some Add
operator_of kind.Minus = Some Sub
operator_of kind.Star = Some Mul
operator_of kind.Slash = Some Div
operator_of kind.Percent = Some Rem
operator_of kind.Amp = Some And
operator_of kind.Bar = Some Or
operator_of kind.Caret = Some Xor
operator_of kind.Shl = Some Shl
operator_of kind.Shr = Some Shr
operator_of _ = None

-- how tightly an operator binds its operands, 5 the most; 6 is the level of an operand without operators
-- Rule: meaning/grouping.
abbrev pub level_of : Op → ℕ
level_of Or = 0
level_of Xor = 1
level_of And = 2
level_of Shl = 3
level_of Shr = 3
level_of Add = 4
level_of Sub = 4
level_of other = 5

-- the comparison of a sign
abbrev pub comparison_of : Kind → Option Cmp
comparison_of kind.Eq = Some Eq
comparison_of kind.Ne = Some Ne
comparison_of kind.Lt = Some Lt
comparison_of kind.Le = Some Le
comparison_of kind.Gt = Some Gt
comparison_of kind.Ge = Some Ge
comparison_of _ = None

-- the keyword of a label
abbrev pub keyword_of : Label → Kind
keyword_of Public = kind.Public
keyword_of Secret = kind.Secret

-- the number of operators and signs of a tree
abbrev pub operators : Tree → ℕ
operators (Number z) = 0
operators (Variable x) = 0
operators (Element x i) = operators i
operators (Operation op a b) = operators a + operators b + 1

-- Tokens that are an expression with this tree. The expression is inside `depth` open brackets and signs, of which at
-- most `most` may be open. All its operators outside of its own brackets have at least this level.
pub data SpellsTree (most : ℕ) : (depth level : ℕ) → List Kind → Tree → Type 0 where
  Numeral : {depth level : ℕ} (n : ℕ) → SpellsTree most depth level (kind.Num (pos n) ∷ []) (Number (pos n))
  Named : {depth level : ℕ} (name : List ℕ) → SpellsTree most depth level (kind.Word name ∷ []) (Variable name)
  Indexed : {depth level : ℕ} {tokens : List Kind} {index : Tree} (name : List ℕ) →
      depth < most → SpellsTree most (depth + 1) 0 tokens index →
      SpellsTree most depth level (kind.Word name ∷ kind.LBracket ∷ (tokens ++ kind.RBracket ∷ [])) (Element name index)
  Bracketed : {depth level : ℕ} {tokens : List Kind} {tree : Tree} →
      depth < most → SpellsTree most (depth + 1) 0 tokens tree →
      SpellsTree most depth level (kind.LParen ∷ (tokens ++ kind.RParen ∷ [])) tree
  Negated : {depth level : ℕ} {tokens : List Kind} {tree : Tree} →
      depth < most → SpellsTree most (depth + 1) 6 tokens tree →
      SpellsTree most depth level (kind.Minus ∷ tokens) (Operation Sub (Number (pos 0)) tree)
  -- operators of the same level group to the left
  Joined : {depth level : ℕ} {left right : List Kind} {a b : Tree} (op : Op) (sign : Kind) →
      level ≤ level_of op → operator_of sign ≡ Some op →
      SpellsTree most depth (level_of op) left a → SpellsTree most depth (level_of op + 1) right b →
      SpellsTree most depth level (left ++ sign ∷ right) (Operation op a b)

-- tokens that are a guard: two expressions with a comparison between them
pub data Compares (most : Limits) : List Kind → Test → Type 0 where
  Compared : {left right : List Kind} {a b : Tree} (cmp : Cmp) (sign : Kind) →
      comparison_of sign ≡ Some cmp → SpellsTree most.brackets 0 0 left a → SpellsTree most.brackets 0 0 right b →
      operators a + operators b ≤ most.operators →
      Compares most (left ++ sign ∷ right) (record { cmp = cmp; left = a; right = b })

-- tokens that are statements in order, inside `depth` open braces
pub data Writes (most : Limits) : (depth : ℕ) → List Kind → Block → Type 0 where
  Ends : {depth : ℕ} → Writes most depth [] Nothing
  -- name = value ;
  Sets : {depth : ℕ} {tokens rest : List Kind} {value : Tree} {block : Block} (name : List ℕ)
      → SpellsTree most.brackets 0 0 tokens value → operators value ≤ most.operators → Writes most depth rest block
      → Writes most depth (kind.Word name ∷ kind.Assign ∷ (tokens ++ kind.Semi ∷ rest))
      (Then (SetVariable name value) block)
  -- name [ index ] = value ;
  Puts : {depth : ℕ} {at tokens rest : List Kind} {index value : Tree} {block : Block} (name : List ℕ) →
      SpellsTree most.brackets 1 0 at index → SpellsTree most.brackets 0 0 tokens value →
      operators index + operators value ≤ most.operators → Writes most depth rest block →
      Writes most depth
      (kind.Word name ∷ kind.LBracket ∷ (at ++ kind.RBracket ∷ kind.Assign ∷ (tokens ++ kind.Semi ∷ rest)))
      (Then (SetElement name index value) block)
  -- if ( guard ) { first }
  Chooses : {depth : ℕ} {guard tokens rest : List Kind} {test : Test} {first block : Block}
      → Compares most guard test
      → depth < most.braces → Writes most (depth + 1) tokens first → Writes most depth rest block → Writes most depth
      (kind.If ∷ kind.LParen ∷ (guard ++ kind.RParen ∷ kind.LBrace ∷ (tokens ++ kind.RBrace ∷ rest)))
      (Then (Choice test first Nothing) block)
  -- if ( guard ) { first } else { second }
  ChoosesElse : {depth : ℕ} {guard tokens others rest : List Kind} {test : Test} {first second block : Block} →
      Compares most guard test → depth < most.braces → Writes most (depth + 1) tokens first →
      Writes most (depth + 1) others second → Writes most depth rest block →
      Writes most depth
      (kind.If ∷ kind.LParen ∷ (guard ++ kind.RParen ∷ kind.LBrace ∷
      (tokens ++ kind.RBrace ∷ kind.Else ∷ kind.LBrace ∷ (others ++ kind.RBrace ∷ rest))))
      (Then (Choice test first second) block)
  -- while ( guard ) { body }
  Repeats : {depth : ℕ} {guard tokens rest : List Kind} {test : Test} {body block : Block}
      → Compares most guard test
      → depth < most.braces → Writes most (depth + 1) tokens body → Writes most depth rest block → Writes most depth
      (kind.While ∷ kind.LParen ∷ (guard ++ kind.RParen ∷ kind.LBrace ∷ (tokens ++ kind.RBrace ∷ rest)))
      (Then (Loop test body) block)

-- tokens that are declarations in order
pub data Declares : List Kind → List Decl → Type 0 where
  NoMore : Declares [] []
  -- label int name ;
  Scalar : {rest : List Kind} {decls : List Decl} (label : Label) (name : List ℕ) → Declares rest decls →
      Declares (keyword_of label ∷ kind.Int ∷ kind.Word name ∷ kind.Semi ∷ rest)
      (record { name = name; label = label; length = None } ∷ decls)
  -- label int name [ length ] ;
  Array : {rest : List Kind} {decls : List Decl} (label : Label) (name : List ℕ) (n : ℕ) → Declares rest decls
      → Declares (keyword_of label ∷ kind.Int ∷ kind.Word name ∷ kind.LBracket ∷ kind.Num (pos n) ∷ kind.RBracket
      ∷ kind.Semi ∷ rest) (record { name = name; label = label; length = Some n } ∷ decls)

-- tokens that are a program with this tree: declarations, then statements
pub data Sentence (most : Limits) : List Kind → Source → Type 0 where
  Program : {front back : List Kind} {decls : List Decl} {body : Block} → Declares front decls
      → Writes most 0 back body
      → Sentence most (front ++ back) (record { decls = decls; body = body })
