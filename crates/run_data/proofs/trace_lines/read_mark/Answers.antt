use Rattle.std.proofs.Common.{◌∷◌, [], sym, ap, ◌∙◌}
use Rattle.run_data.proofs.TraceReading.{no_bank}
use Rattle.run_data.proofs.trace_lines.read_mark.Goals as goal

pub returns-in-None : goal.returns-in-None
returns-in-None c = λ event fits is.
    let number = c.in-Some.number.now in
    let piece = c.in-Some.ensures.cases.0 ∙ ap (λ letter. letter ∷ number) c.if-letter-ne79.false in
    let read = c.in-Some-read_number.ensures.some in
    no_bank c.args.size number c.in-Some-read_number.bank read.1 read.0 c.in-None.ensures.none event fits
    (sym (ap (λ bytes. bytes ∷ []) piece) ∙ is)
