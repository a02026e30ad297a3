use Rattle.std.proofs.lemmas.Result.{IfOk-weaker}
use Rattle.procs_parser.proofs.PlainNames.{file_plain}
use Rattle.procs_parser.proofs.parsing.read_file.Goals as goal

pub returns-clause-plain : goal.returns-clause-plain
returns-clause-plain c =
    IfOk-weaker c.read_text.result _ _ (λ file spelled. file_plain spelled.is) c.read_text.ensures.spelled
