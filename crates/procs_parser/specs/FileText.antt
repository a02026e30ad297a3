-- A text that encodes a file with procedures, or its first error (this project's profile).
use Rattle.std.specs.Prelude.{ℕ, List}
use Rattle.src_parser.specs.Grammar.{limits}
use Rattle.src_parser.specs.Refusals.{token_kinds}
use Rattle.src_parser.specs.Source.{HasTokens, ExplainsTextBy}
use Rattle.src_parser.specs.declared.errors.TextFault.{TextFault}
use Rattle.procs_tree.specs.Trees.{File}
use Rattle.procs_parser.specs.FileGrammar.{SpellsFile}
use Rattle.procs_parser.specs.FileRefusals.{ExplainsFile}

-- a text encodes a file
abbrev pub SpellsFileText : List ℕ → File → Type 0
SpellsFileText text file = HasTokens (λ tokens. SpellsFile limits (token_kinds tokens) file) text

-- why a text isn't a file
abbrev pub ExplainsFileText : TextFault → List ℕ → Type 0
ExplainsFileText e text = ExplainsTextBy ExplainsFile e text
