-- For the proofs and for private clauses only: how the parser reads a program token by token.
use Rattle.std.specs.Prelude.{ℕ, List, [], ◌∷◌, ◌++◌, Option, Some, None, option_map}
use Rattle.gr_word.specs.declared.variables.Label.TheVariants.{Public, Secret}
use Rattle.src_lexer.specs.declared.tokens.Kind.{Kind}
use Rattle.src_tree.specs.declared.trees.Decl.{Decl}
use Rattle.src_tree.specs.Trees.{Statement, SetVariable, SetElement, Choice, Loop, block_of, Source}
use Rattle.src_parser.specs.Grammar.{Limits}
use Rattle.src_parser.specs.Headings.{Heading, Labelled, HeadingState, Begun, Declared, heading_advanced}
use Rattle.src_parser.specs.Statements.{Makers, Blocks, between_statements, performed, complete_of, depth_of}
use Rattle.src_parser.specs.Tokenwise.{Advance, Goes, mapped}
use Rattle.src_lexer.specs.declared.tokens.Kind.TheVariants as kind

-- the statements of programs
abbrev pub programs : Makers Statement
programs = record {
  variable_set = SetVariable;
  element_set = SetElement;
  choice = λ test first second. Choice test (block_of first) (block_of second);
  repetition = λ test body. Loop test (block_of body);
}

-- between declarations, in one, or among statements
pub data ParserState : Type 0 where
  Between : (decls : List Decl) → ParserState
  Declaring : (decls : List Decl) (heading : Heading) → ParserState
  Doing : (decls : List Decl) (blocks : Blocks Statement) → ParserState

-- a token between declarations, or the first token of the statements
abbrev pub between : List Decl → Kind → Advance ParserState
between decls kind.Public = Goes (Declaring decls (Labelled Public))
between decls kind.Secret = Goes (Declaring decls (Labelled Secret))
between decls k = mapped (Doing decls) (between_statements programs [] [] k)

-- a declaration that has begun, or one more that is complete
abbrev pub with_heading : List Decl → HeadingState → ParserState
with_heading decls (Begun heading) = Declaring decls heading
with_heading decls (Declared decl) = Between (decls ++ decl ∷ [])

-- a token of a program
abbrev pub advanced : Limits → ParserState → Kind → Advance ParserState
advanced most (Between decls) k = between decls k
advanced most (Declaring decls heading) k = mapped (with_heading decls) (heading_advanced heading k)
advanced most (Doing decls blocks) k = mapped (Doing decls) (performed programs most 0 blocks k)

abbrev pub source_made : List Decl → List Statement → Source
source_made decls statements = record { decls = decls; body = block_of statements }

-- the program that was read, if it is complete
abbrev pub program_of : ParserState → Option Source
program_of (Between decls) = Some (source_made decls [])
program_of (Declaring decls heading) = None
program_of (Doing decls blocks) = option_map (source_made decls) (complete_of programs blocks)

-- the number of open braces
abbrev pub open_braces : ParserState → ℕ
open_braces (Doing decls blocks) = depth_of 0 blocks
open_braces _ = 0
