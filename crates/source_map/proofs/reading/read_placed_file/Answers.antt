use Rattle.std.proofs.lemmas.Result.{IfOk-weaker}
use Rattle.src_parser.specs.Prelude.{token_kinds}
use Rattle.procs_tree.specs.Prelude.{file_of}
use Rattle.source_map.proofs.FilesPlaced.{map_places}
use Rattle.source_map.proofs.reading.read_placed_file.Goals as goal

pub returns-clause-placed : goal.returns-clause-placed
returns-clause-placed c =
    IfOk-weaker c.read_text.result _ _
    (λ placed h. record {
      tokens = h.tokens;
      split = h.split;
      is = record {
        spells = h.is.0;
        places = map_places (token_kinds h.tokens) (file_of placed.tree) placed.map h.is.0 h.is.1;
      };
    })
    c.read_text.ensures.spelled
