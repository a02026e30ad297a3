use Rattle.std.proofs.Common.{ap, ◌∙◌}
use Rattle.std.proofs.lemmas.Result.{IfOk-weaker}
use Rattle.run_data.specs.Prelude.{contents, PiecesFound, LineFound}
use Rattle.run_data.proofs.TraceReading.{line-found}
use Rattle.run_data.proofs.trace_lines.read_line.Goals as goal

pub returns : goal.returns
returns c =
    let pieces = contents c.deref.result.now in
    let split = ap contents c.deref.ensures.value ∙ c.in_ok-pieces.ensures in
    IfOk-weaker c.read_pieces.result (PiecesFound c.args.size pieces) (LineFound c.args.size c.args.bytes.now)
    (λ found. line-found c.args.size c.args.bytes.now pieces found split) c.read_pieces.ensures
