use Rattle.lt_assembler.specs.Prelude.{lines, draft_of}
use Rattle.lt_assembler.proofs.InRange.{in_range}
use Rattle.lt_assembler.proofs.LineByLine.{text_found}
use Rattle.lt_assembler.proofs.assembly.assembled.Goals as goal

pub finish-requires : goal.finish-requires
finish-requires c =
    in_range (lines c.args.text.now) c.in_ok-draft.end (draft_of c.in_ok-draft.draft)
    (text_found c.args.text.now (draft_of c.in_ok-draft.draft) c.in_ok-draft.end c.in_ok-draft.ensures)
