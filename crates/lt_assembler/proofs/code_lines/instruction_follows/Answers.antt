use Rattle.std.proofs.Common.{◌≡◌, ℕ, true, false, List, ◌∷◌, length, refl, sym, ◌∙◌, ap, arith}
use Rattle.std.proofs.lemmas.Bool.{eqb-true}
use Rattle.lt_assembler.specs.Prelude.{lines, first_line, behind_line, is_instruction_line, instruction_follows}
use Rattle.lt_assembler.proofs.Splitting.{lines_none, lines_front, positive}
use Rattle.lt_assembler.proofs.FirstLine.{behind_less}
use Rattle.lt_assembler.proofs.code_lines.instruction_follows.Goals as goal

found : (line : List ℕ) (rest : List (List ℕ)) → is_instruction_line line ≡ true
    → instruction_follows (line ∷ rest) ≡ true
found line rest h = rw h refl

passed : (line : List ℕ) (rest : List (List ℕ)) → is_instruction_line line ≡ false
    → instruction_follows (line ∷ rest) ≡ instruction_follows rest
passed line rest h = rw h refl

pub returns : goal.returns
returns c =
    let none = lines_none c.loop-list.rest.now (eqb-true _ _ (sym c.is_empty.ensures ∙ c.loop-list-test.false)) in
    sym (ap instruction_follows none) ∙ c.loop-list.invariant

pub returns-then-found : goal.returns-then-found
returns-then-found c =
    let text = c.loop-list.rest.now in
    let front = lines_front text (positive _ (sym c.is_empty.ensures ∙ c.loop-list-test.true)) in
    let form = sym c.is_instruction_line-found.ensures.form ∙ c.if-found.true in
    sym (sym c.loop-list.invariant ∙ ap instruction_follows front
    ∙ found (first_line text) (lines (behind_line text)) form)

pub loop-list-preserved : goal.loop-list-preserved
loop-list-preserved c =
    let text = c.loop-list.rest.now in
    let front = lines_front text (positive _ (sym c.is_empty.ensures ∙ c.loop-list-test.true)) in
    let form = sym c.is_instruction_line-found.ensures.form ∙ c.if-found.false in
    ap (λ t. instruction_follows (lines t)) c.is_instruction_line-found.ensures.behind
    ∙ sym (ap instruction_follows front ∙ passed (first_line text) (lines (behind_line text)) form)
    ∙ c.loop-list.invariant

pub loop-list-smaller : goal.loop-list-smaller
loop-list-smaller c =
    let bytes = ap length c.is_instruction_line-found.ensures.behind in
    let less = behind_less c.loop-list.rest.now (positive _ (sym c.is_empty.ensures ∙ c.loop-list-test.true)) in
    omega (arith, bytes, less)
