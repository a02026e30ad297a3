use Rattle.std.proofs.lemmas.Result.{IfOk-weaker}
use Rattle.src_parser.specs.Prelude.{token_kinds}
use Rattle.source_map.proofs.FilesPlaced.{map_places}
use Rattle.source_map.proofs.ProgramsPlaced.{program_places}
use Rattle.source_map.proofs.reading.map_of.Goals as goal

pub returns-clause-programs : goal.returns-clause-programs
returns-clause-programs c =
    IfOk-weaker c.mapped.result _ _
    (λ map made source sentence. program_places (token_kinds c.args.tokens.now) source map sentence made)
    c.mapped.ensures

pub returns-clause-files : goal.returns-clause-files
returns-clause-files c =
    IfOk-weaker c.mapped.result _ _
    (λ map made file spells. map_places (token_kinds c.args.tokens.now) file map spells made)
    c.mapped.ensures
