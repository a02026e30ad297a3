-- The grammar of files with procedures: which tokens are a block, a procedure, a file, and with which tree.
-- Expressions,
-- guards and declarations are those of programs.
use Rattle.std.specs.Prelude.{◌≡◌, ℕ, ◌+◌, ◌<◌, ◌≤◌, List, [], ◌∷◌, ◌++◌, None, false}
use Rattle.gr_word.specs.declared.variables.Label.{Label}
use Rattle.src_lexer.specs.declared.tokens.Kind.{Kind}
use Rattle.src_tree.specs.declared.trees.Decl.{Decl}
use Rattle.src_tree.specs.Trees.{Tree, Test}
use Rattle.src_parser.specs.Grammar.{Limits, keyword_of, operators, SpellsTree, Compares, Declares}
use Rattle.procs_tree.specs.Trees.{SetVariable, SetElement, Choice, Loop, Call, Block, Nothing, Then, Parameter, OfValue, OfVariable, Procedure, File}
use Rattle.procs_tree.specs.Inlined.{is_hidden}
use Rattle.src_lexer.specs.declared.tokens.Kind.TheVariants as kind

-- no name begins with `__`
abbrev pub HasNoHiddenName : List Kind → Type 0
HasNoHiddenName [] = Unit {0}
HasNoHiddenName (kind.Word name ∷ tokens) = (is_hidden name ≡ false) × HasNoHiddenName tokens
HasNoHiddenName (k ∷ tokens) = HasNoHiddenName tokens

abbrev pub operators_of : List Tree → ℕ
operators_of [] = 0
operators_of (e ∷ es) = operators e + operators_of es

-- tokens that are one expression or more, with `;` between them
pub data SpellsTrees (most : ℕ) : List Kind → List Tree → Type 0 where
  Last : {tokens : List Kind} {e : Tree} → SpellsTree most 0 0 tokens e → SpellsTrees most tokens (e ∷ [])
  Before : {tokens rest : List Kind} {e : Tree} {es : List Tree} → SpellsTree most 0 0 tokens e
      → SpellsTrees most rest es → SpellsTrees most (tokens ++ kind.Semi ∷ rest) (e ∷ es)

-- tokens that are the arguments of a call
pub data Arguments (most : Limits) : List Kind → List Tree → Type 0 where
  NoArgument : Arguments most [] []
  Given : {tokens : List Kind} {es : List Tree} → SpellsTrees most.brackets tokens es
      → operators_of es ≤ most.operators → Arguments most tokens es

-- tokens that are statements in order, inside `depth` open braces
pub data SpellsBlock (most : Limits) : (depth : ℕ) → List Kind → Block → Type 0 where
  Ends : {depth : ℕ} → SpellsBlock most depth [] Nothing
  Sets : {depth : ℕ} {tokens rest : List Kind} {value : Tree} {block : Block} (name : List ℕ)
      → SpellsTree most.brackets 0 0 tokens value → operators value ≤ most.operators → SpellsBlock most depth rest block
      → SpellsBlock most depth (kind.Word name ∷ kind.Assign ∷ (tokens ++ kind.Semi ∷ rest))
      (Then (SetVariable name value) block)
  Puts : {depth : ℕ} {at tokens rest : List Kind} {index value : Tree} {block : Block} (name : List ℕ)
      → SpellsTree most.brackets 1 0 at index → SpellsTree most.brackets 0 0 tokens value
      → operators index + operators value ≤ most.operators → SpellsBlock most depth rest block
      → SpellsBlock most depth
      (kind.Word name ∷ kind.LBracket ∷ (at ++ kind.RBracket ∷ kind.Assign ∷ (tokens ++ kind.Semi ∷ rest)))
      (Then (SetElement name index value) block)
  -- name ( arguments ) ;
  Calls : {depth : ℕ} {tokens rest : List Kind} {es : List Tree} {block : Block} (name : List ℕ)
      → Arguments most tokens es → SpellsBlock most depth rest block
      → SpellsBlock most depth (kind.Word name ∷ kind.LParen ∷ (tokens ++ kind.RParen ∷ kind.Semi ∷ rest))
      (Then (Call name es) block)
  Chooses : {depth : ℕ} {guard tokens rest : List Kind} {test : Test} {first block : Block}
      → Compares most guard test → depth < most.braces → SpellsBlock most (depth + 1) tokens first
      → SpellsBlock most depth rest block → SpellsBlock most depth
      (kind.If ∷ kind.LParen ∷ (guard ++ kind.RParen ∷ kind.LBrace ∷ (tokens ++ kind.RBrace ∷ rest)))
      (Then (Choice test first Nothing) block)
  ChoosesElse : {depth : ℕ} {guard tokens others rest : List Kind} {test : Test} {first second block : Block}
      → Compares most guard test → depth < most.braces → SpellsBlock most (depth + 1) tokens first
      → SpellsBlock most (depth + 1) others second → SpellsBlock most depth rest block → SpellsBlock most depth
      (kind.If ∷ kind.LParen ∷ (guard ++ kind.RParen ∷ kind.LBrace ∷
      (tokens ++ kind.RBrace ∷ kind.Else ∷ kind.LBrace ∷ (others ++ kind.RBrace ∷ rest))))
      (Then (Choice test first second) block)
  Repeats : {depth : ℕ} {guard tokens rest : List Kind} {test : Test} {body block : Block}
      → Compares most guard test → depth < most.braces → SpellsBlock most (depth + 1) tokens body
      → SpellsBlock most depth rest block → SpellsBlock most depth
      (kind.While ∷ kind.LParen ∷ (guard ++ kind.RParen ∷ kind.LBrace ∷ (tokens ++ kind.RBrace ∷ rest)))
      (Then (Loop test body) block)

-- tokens that are one parameter
pub data SpellsParameter : List Kind → Parameter → Type 0 where
  AScalar : (label : Label) (name : List ℕ)
      → SpellsParameter (keyword_of label ∷ kind.Int ∷ kind.Word name ∷ []) (OfValue label name)
  AnArray : (name : List ℕ)
      → SpellsParameter (kind.Int ∷ kind.Word name ∷ kind.LBracket ∷ kind.RBracket ∷ []) (OfVariable name)

pub data SpellsParameters : List Kind → List Parameter → Type 0 where
  LastOne : {tokens : List Kind} {p : Parameter} → SpellsParameter tokens p → SpellsParameters tokens (p ∷ [])
  Another : {tokens rest : List Kind} {p : Parameter} {ps : List Parameter} → SpellsParameter tokens p
      → SpellsParameters rest ps → SpellsParameters (tokens ++ kind.Semi ∷ rest) (p ∷ ps)

pub data Parameters : List Kind → List Parameter → Type 0 where
  NoParameter : Parameters [] []
  SomeParameters : {tokens : List Kind} {ps : List Parameter} → SpellsParameters tokens ps → Parameters tokens ps

-- tokens that are locals in order
pub data Locals : List Kind → List Decl → Type 0 where
  NoLocal : Locals [] []
  Local : {rest : List Kind} {decls : List Decl} (label : Label) (name : List ℕ) → Locals rest decls
      → Locals (keyword_of label ∷ kind.Int ∷ kind.Word name ∷ kind.Semi ∷ rest)
      (record { name = name; label = label; length = None } ∷ decls)

-- `proc` is a name
abbrev pub proc_word : List ℕ
proc_word = 112 ∷ 114 ∷ 111 ∷ 99 ∷ []

-- tokens that are procedures in order; the brace of each counts among the open ones
pub data Procedures (most : Limits) : List Kind → List Procedure → Type 0 where
  NoProcedure : Procedures most [] []
  AProcedure : {ps ls body rest : List Kind} {parameters : List Parameter} {locals : List Decl} {block : Block}
      {others : List Procedure} (name : List ℕ) → Parameters ps parameters → 0 < most.braces → Locals ls locals
      → SpellsBlock most 1 body block → Procedures most rest others
      → Procedures most
      (kind.Word proc_word ∷ kind.Word name ∷ kind.LParen ∷
      (ps ++ kind.RParen ∷ kind.LBrace ∷ (ls ++ (body ++ kind.RBrace ∷ rest))))
      (record { name = name; parameters = parameters; locals = locals; body = block } ∷ others)

-- tokens that are a file with this tree
pub data SpellsFile (most : Limits) : List Kind → File → Type 0 where
  AFile : {front middle back : List Kind} {decls : List Decl} {procedures : List Procedure} {body : Block}
      → HasNoHiddenName (front ++ (middle ++ back)) → Declares front decls → Procedures most middle procedures
      → SpellsBlock most 0 back body
      → SpellsFile most (front ++ (middle ++ back))
      (record { decls = decls; procedures = procedures; body = body })
