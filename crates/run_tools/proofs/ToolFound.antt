-- What a tool finds in words that fit.
use Rattle.std.proofs.Common.{◌≡◌, true, List, [], ap}
use Rattle.clap.proofs.WalkLemmas.{both}
use Rattle.clap.specs.Words.{App, HasMatchesOf, Text, fault_of, is_simple, is_simple_and_free}
use Rattle.clap.specs.declared.parser.matches.ArgMatches.{ArgMatches}
use Rattle.command_words.specs.Prelude.{IsFound, none_wrong}
use Rattle.std.specs.Prelude.{Some}

pub found_words : (app : App) (words : List Text) (found : ArgMatches) → is_simple_and_free app ≡ true
    → HasMatchesOf app words found → fault_of app words ≡ [] → IsFound app words (Some found)
found_words app words found free has none = (ap none_wrong none, (has (both (is_simple app) _ free).0).0)
