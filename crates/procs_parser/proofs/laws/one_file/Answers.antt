use Rattle.src_parser.specs.Prelude.{limits}
use Rattle.procs_parser.proofs.FileLaws.{one_file}
use Rattle.procs_parser.proofs.laws.one_file.Goals as goal

pub returns : goal.returns
returns c = one_file limits
