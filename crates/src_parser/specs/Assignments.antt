-- For the proofs and for private clauses only: tokens that are one assignment, read between two statements.
use Rattle.std.specs.Prelude.{◌≡◌, ℕ, List, [], ◌∷◌, ◌++◌}
use Rattle.src_lexer.specs.declared.tokens.Kind.{Kind}
use Rattle.src_tree.specs.declared.trees.Decl.{Decl}
use Rattle.src_tree.specs.Trees.{Tree, Statement}
use Rattle.src_parser.specs.Grammar.{limits}
use Rattle.src_parser.specs.Expressions.{IsExpression}
use Rattle.src_parser.specs.Tokenwise.{advances, Goes}
use Rattle.src_parser.specs.Statements.{Outer, Among, Ready}
use Rattle.src_parser.specs.Advances.{ParserState, Doing, advanced}
use Rattle.src_lexer.specs.declared.tokens.Kind.TheVariants as kind

-- these tokens are an expression with this tree, and a last token
pub record EndedBy (last : Kind) (opened used : ℕ) (tokens : List Kind) (tree : Tree) : Type 0 where
  pub front : List Kind
  pub split : tokens ≡ front ++ last ∷ []
  pub is : IsExpression limits opened used front tree

-- these tokens are a `=`, an expression with this tree, and a `;`
pub record Assigned (used : ℕ) (tokens : List Kind) (tree : Tree) : Type 0 where
  pub rest : List Kind
  pub split : tokens ≡ kind.Assign ∷ rest
  pub is : EndedBy kind.Semi 0 used rest tree

-- these tokens lead from a state to another one
pub record Leads (before : ParserState) (tokens : List Kind) (after : ParserState) : Type 0 where
  pub reads : advances advanced limits before tokens ≡ Goes after

-- between two statements, these tokens add this statement
pub record Adds (tokens : List Kind) (statement : Statement) : Type 0 where
  pub leads : (decls : List Decl) (outer : List (Outer Statement)) (here : List Statement)
      → Leads (Doing decls (Among outer here Ready)) tokens
      (Doing decls (Among outer (here ++ statement ∷ []) Ready))
