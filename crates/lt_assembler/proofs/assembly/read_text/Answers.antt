use Rattle.std.proofs.Common.{◌≡◌, ◌+◌, length, Err, sym, ◌∙◌, ap, arith}
use Rattle.std.proofs.lemmas.Bool.{eqb-true}
use Rattle.lt_assembler.specs.Prelude.{lines, first_line, behind_line, read_lines, draft_of}
use Rattle.lt_assembler.proofs.Splitting.{lines_none, lines_front, positive}
use Rattle.lt_assembler.proofs.FirstLine.{behind_less}
use Rattle.lt_assembler.proofs.LineByLine.{read_one, read_fault, read_none, no_memory, text_fault, text_fine}
use Rattle.lt_assembler.proofs.assembly.read_text.Goals as goal

pub returns-in-Err : goal.returns-in-Err
returns-in-Err c = λ other.
    let fine = no_memory c.loop-list.number c.in-Err.fault c.at.result c.at.ensures other in
    let front = lines_front c.loop-list.rest.now (positive _ (sym c.is_empty.ensures ∙ c.loop-list-test.true)) in
    let fault =
    read_fault c.loop-list.number (first_line c.loop-list.rest.now) (lines (behind_line c.loop-list.rest.now))
    (draft_of c.loop-list.draft) c.in-Err.fault (c.in-Err.ensures.read fine) in
    let here : read_lines c.loop-list.number (lines c.loop-list.rest.now) (draft_of c.loop-list.draft) ≡ _ =
    ap (λ ls. read_lines c.loop-list.number ls (draft_of c.loop-list.draft)) front ∙ fault in
    text_fault c.args.text.now c.at.result (sym c.loop-list.invariant.read ∙ here ∙ ap Err (sym c.at.ensures))

pub loop-list-preserved : goal.loop-list-preserved
loop-list-preserved c =
    let some = positive _ (sym c.is_empty.ensures ∙ c.loop-list-test.true) in
    let front = lines_front c.loop-list.rest.now some in
    let is = c.in-Ok.ensures.behind in
    let lines_is = ap lines is in
    let size = ap length front in
    let rest_size = ap length lines_is in
    let bytes = ap length is in
    record {
      read = ap (λ ls. read_lines (c.loop-list.number + 1) ls (draft_of c.read_line.new.draft)) lines_is
          ∙ sym (read_one c.loop-list.number (first_line c.loop-list.rest.now)
          (lines (behind_line c.loop-list.rest.now))
          (draft_of c.loop-list.draft) (draft_of c.read_line.new.draft) c.in-Ok.ensures.read)
          ∙ ap (λ ls. read_lines c.loop-list.number ls (draft_of c.loop-list.draft)) (sym front)
          ∙ c.loop-list.invariant.read;
      number = omega (arith, size, rest_size, c.loop-list.invariant.number);
      small = omega (arith, bytes, behind_less c.loop-list.rest.now some, c.loop-list.invariant.small);
    }

pub loop-list-smaller : goal.loop-list-smaller
loop-list-smaller c =
    let bytes = ap length c.in-Ok.ensures.behind in
    let less = behind_less c.loop-list.rest.now (positive _ (sym c.is_empty.ensures ∙ c.loop-list-test.true)) in
    omega (arith, bytes, less)

pub returns : goal.returns
returns c =
    let none = lines_none c.loop-list.rest.now (eqb-true _ _ (sym c.is_empty.ensures ∙ c.loop-list-test.false)) in
    let size = ap length none in
    let fine =
    sym c.loop-list.invariant.read ∙ ap (λ ls. read_lines c.loop-list.number ls (draft_of c.loop-list.draft)) none
    ∙ read_none c.loop-list.number (draft_of c.loop-list.draft) in
    text_fine c.args.text.now (draft_of c.loop-list.draft) c.loop-list.number fine
    (omega (arith, size, c.loop-list.invariant.number))
