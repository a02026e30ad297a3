use Rattle.std.proofs.lemmas.Result.{IfOk-weaker}
use Rattle.src_tree.specs.Prelude.{source_of}
use Rattle.src_parser.specs.Prelude.{token_kinds}
use Rattle.source_map.proofs.ProgramsPlaced.{program_places}
use Rattle.source_map.proofs.reading.read_placed.Goals as goal

pub returns-clause-placed : goal.returns-clause-placed
returns-clause-placed c =
    IfOk-weaker c.read_text.result _ _
    (λ placed h. record {
      tokens = h.tokens;
      split = h.split;
      is = record {
        sentence = h.is.0;
        places = program_places (token_kinds h.tokens) (source_of placed.tree) placed.map h.is.0 h.is.1;
      };
    })
    c.read_text.ensures.spelled
