use Rattle.std.proofs.Common.{List, ℕ, map, sym, ◌∙◌, ap, Bor}
use Rattle.lt_assembler.proofs.LongLines.{form_of_words, form_refused}
use Rattle.lt_assembler.proofs.code_lines.is_instruction_line.Goals as goal

pub returns-in-None-clause-form : goal.returns-in-None-clause-form
returns-in-None-clause-form c = sym (form_refused c.args.text.now c.in-None.ensures.split)

pub returns-in-Some-clause-form : goal.returns-in-Some-clause-form
returns-in-Some-clause-form c =
    let split = c.in-Some.ensures.split in
    let words = ap (map (λ (w : Bor (List ℕ)). w.now)) c.split_at.ensures.front ∙ split.1 in
    c.is_instruction.ensures ∙ sym (form_of_words c.args.text.now _ split.0 words)
