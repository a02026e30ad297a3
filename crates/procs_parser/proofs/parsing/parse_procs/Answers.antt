use Rattle.procs_parser.proofs.PlainNames.{file_plain}
use Rattle.procs_parser.proofs.parsing.parse_procs.Goals as goal

pub returns-clause-plain : goal.returns-clause-plain
returns-clause-plain c = file_plain c.in_ok-file.ensures.tree
