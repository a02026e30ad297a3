use Rattle.std.proofs.Common.{[]}
use Rattle.std.proofs.lemmas.Result.{on_ok_weaker, IfErr-weaker}
use Rattle.gr_base.proofs.Fails.{if_weaker}
use Rattle.src_parser.proofs.SeveralTokens.{reads_both}
use Rattle.procs_parser.specs.Prelude.{Between, taken, state_of}
use Rattle.procs_parser.proofs.FileLaws.{stops_explained}
use Rattle.procs_parser.proofs.parsing.FileReaderTokenReader.read.Goals as goal

pub returns-clause-read : goal.returns-clause-read
returns-clause-read c =
    on_ok_weaker c.read_tokens.result
    (λ leads before read. reads_both taken before c.args.tokens.now (Between []) (state_of c.args.self.now.state) _ read leads)
    c.read_tokens.ensures.leads

pub returns-clause-refused : goal.returns-clause-refused
returns-clause-refused c =
    IfErr-weaker c.read_tokens.result _ _
    (λ fail. if_weaker fail (λ fault stops before after read.
    stops_explained before c.args.tokens.now after (state_of c.args.self.now.state) fault read stops))
    c.read_tokens.ensures.stops
