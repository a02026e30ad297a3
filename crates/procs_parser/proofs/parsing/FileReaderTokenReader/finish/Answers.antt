use Rattle.std.proofs.Common.{◌≡◌, sym, ap, ◌∙◌, Some, None}
use Rattle.std.specs.Prelude.{option_map}
use Rattle.src_parser.proofs.SeveralTokens.{cut_at_end, whole_at_end}
use Rattle.procs_tree.specs.Prelude.{file_of}
use Rattle.procs_parser.specs.Prelude.{program_of, state_of}
use Rattle.procs_parser.proofs.FileLaws.{file_laws}
use Rattle.procs_parser.proofs.parsing.FileReaderTokenReader.finish.Goals as goal

pub returns-in-Some-clause-finished : goal.returns-in-Some-clause-finished
returns-in-Some-clause-finished c tokens read =
    let h : program_of (state_of c.args.self.state) ≡ Some (file_of c.in-Some.file) =
    sym c.in_ok-file.ensures ∙ ap (option_map file_of) c.in-Some.is in
    whole_at_end file_laws tokens (state_of c.args.self.state) _ read h

pub returns-in-None-clause-cut : goal.returns-in-None-clause-cut
returns-in-None-clause-cut c tokens read =
    let h : program_of (state_of c.args.self.state) ≡ None =
    sym c.in_ok-file.ensures ∙ ap (option_map file_of) c.in-None.is in
    cut_at_end file_laws tokens (state_of c.args.self.state) read h
