-- The words that a tool takes. (This project's profile.)
use Rattle.command_words.specs.declared.verbs.VerbWords.{VerbWords}
use Rattle.command_words.specs.Options.{texts}
use Rattle.command_words.specs.VerbRows.{VerbRow}

-- the row of a tool, of which its command is made
abbrev pub tool_row : VerbWords → VerbRow
tool_row tool = record {
  name = tool.name.now;
  place = tool.place;
  places = texts tool.places.now;
  options = texts tool.options.now;
  flags = texts tool.flags.now;
}
