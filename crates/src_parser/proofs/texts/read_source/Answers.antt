use Rattle.std.proofs.lemmas.Result.{IfOk-weaker}
use Rattle.src_parser.proofs.texts.read_source.Goals as goal

pub returns-clause-spelled : goal.returns-clause-spelled
returns-clause-spelled c =
    IfOk-weaker c.read_text.result _ _
    (λ program h. record { tokens = h.tokens; split = h.split; sentence = h.is })
    c.read_text.ensures.spelled
