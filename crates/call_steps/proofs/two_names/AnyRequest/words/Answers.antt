use Rattle.std.proofs.Common.{◌∙◌, ap}
use Rattle.clap.specs.Words.{first_of, found_of, rows_of}
use Rattle.command_words.specs.Prelude.{two_named}
use Rattle.call_steps.proofs.two_names.AnyRequest.words.Goals as goal

pub returns-clause-asked : goal.returns-clause-asked
returns-clause-asked g c =
    let rows = rows_of (found_of c.args.matches.now) in
    let read = c.value.ensures ∙ ap (λ name. first_of name rows) c.source_name.ensures in
    c.two_names.ensures g.C.Conversion.converts
    ∙ (λ k. two_named g.C.Conversion.converts (read k) (c.value-2.ensures k))
