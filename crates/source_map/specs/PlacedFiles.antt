-- A file with procedures, and the places of its statements.
use Rattle.std.specs.Prelude.{ℕ, List, [], ◌∷◌, ◌++◌, length}
use Rattle.src_lexer.specs.declared.tokens.Kind.{Kind}
use Rattle.src_parser.specs.Grammar.{limits}
use Rattle.procs_tree.specs.Trees.{Statement, SetVariable, SetElement, Choice, Loop, Call, Block, Nothing, Then, Procedure, File}
use Rattle.procs_tree.specs.Seen.{file_of}
use Rattle.procs_tree.specs.declared.trees.ProcFile.{ProcFile}
use Rattle.procs_parser.specs.FileGrammar.{SpellsBlock, SpellsFile}
use Rattle.source_map.specs.Places.{Places}
use Rattle.source_map.specs.declared.maps.SourceMap.{SourceMap}

-- the statements of a block and of the blocks in it, in reading order
abbrev mutual
  pub statements_in : Block → List Statement
  statements_in Nothing = []
  statements_in (Then statement rest) = parts_of statement ++ statements_in rest

  pub parts_of : Statement → List Statement
  parts_of (SetVariable name value) = SetVariable name value ∷ []
  parts_of (SetElement name index value) = SetElement name index value ∷ []
  parts_of (Choice test first second) = Choice test first second ∷ (statements_in first ++ statements_in second)
  parts_of (Loop test body) = Loop test body ∷ statements_in body
  parts_of (Call name arguments) = Call name arguments ∷ []

-- the statements of procedures, in reading order
abbrev pub statements_of_all : List Procedure → List Statement
statements_of_all [] = []
statements_of_all (procedure ∷ others) = statements_in procedure.body ++ statements_of_all others

abbrev pub statements_of_file : File → List Statement
statements_of_file file = statements_of_all file.procedures ++ statements_in file.body

-- tokens that are this statement of a file
pub record IsStatement (tokens : List Kind) (statement : Statement) : Type 0 where
  pub depth : ℕ
  pub spells : SpellsBlock limits depth tokens (Then statement Nothing)

-- the places of a file's statements among its tokens
abbrev pub FilePlaces : List Kind → File → (starts ends : List ℕ) → Type 0
FilePlaces tokens file starts ends =
    Places IsStatement tokens 0 (length tokens) (statements_of_file file) starts ends

-- these tokens are this file, and its statements are at these places
pub record IsPlacedFile (tokens : List Kind) (file : ProcFile) (map : SourceMap) : Type 0 where
  pub spells : SpellsFile limits tokens (file_of file)
  pub places : FilePlaces tokens (file_of file) map.starts.items map.ends.items
