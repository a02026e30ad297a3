-- A program with the places of its statements.
use Rattle.std.specs.Prelude.{List}
use Rattle.src_lexer.specs.declared.tokens.Kind.{Kind}
use Rattle.src_tree.specs.Trees.{source_of, block_of_all}
use Rattle.src_tree.specs.declared.trees.Program.{Program}
use Rattle.src_parser.specs.Grammar.{limits, Sentence}
use Rattle.source_map.specs.declared.maps.SourceMap.{SourceMap}
use Rattle.source_map.specs.Places.{StatementPlaces}

-- these tokens are this program, and its statements are at these places
pub record IsPlaced (tokens : List Kind) (program : Program) (map : SourceMap) : Type 0 where
  pub sentence : Sentence limits tokens (source_of program)
  pub places : StatementPlaces tokens (block_of_all program.body.items) map.starts.items map.ends.items
