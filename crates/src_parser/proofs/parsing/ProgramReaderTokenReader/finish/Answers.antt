use Rattle.std.proofs.Common.{◌≡◌, sym, ap, ◌∙◌, Some, None}
use Rattle.std.specs.Prelude.{option_map}
use Rattle.src_tree.specs.Prelude.{source_of}
use Rattle.src_parser.specs.Prelude.{program_of, state_of}
use Rattle.src_parser.proofs.Places.{cut_short}
use Rattle.src_parser.proofs.Refused.{program_laws}
use Rattle.src_parser.proofs.SeveralTokens.{cut_at_end, whole_at_end}
use Rattle.src_parser.proofs.parsing.ProgramReaderTokenReader.finish.Goals as goal

pub returns-in-Some-clause-finished : goal.returns-in-Some-clause-finished
returns-in-Some-clause-finished c tokens read =
    let h : program_of (state_of c.args.self.state) ≡ Some (source_of c.in-Some.program) =
    sym c.in_ok-program.ensures ∙ ap (option_map source_of) c.in-Some.is in
    whole_at_end program_laws tokens (state_of c.args.self.state) _ read h

pub returns-in-None-clause-cut : goal.returns-in-None-clause-cut
returns-in-None-clause-cut c tokens read =
    let h : program_of (state_of c.args.self.state) ≡ None =
    sym c.in_ok-program.ensures ∙ ap (option_map source_of) c.in-None.is in
    cut_short _ (cut_at_end program_laws tokens (state_of c.args.self.state) read h)
