use Rattle.std.proofs.Common.{List, vec_len, sym, ◌∙◌, eqb-true, subst, arith}
use Rattle.std.proofs.lemmas.List.{nil_from_length}
use Rattle.gr_base.proofs.Fails.{if_mapped, if_weaker}
use Rattle.src_parser.specs.Prelude.{ExplainsTextBy}
use Rattle.src_parser.specs.declared.errors.TextFault.{TextFault}
use Rattle.src_parser.proofs.TextTokens.{past_more, has_tokens, piece_fault, wrong_token}
use Rattle.src_parser.proofs.texts.read_text.Goals as goal

pub returns-in-Ok-finish-clause-spelled : goal.returns-in-Ok-finish-clause-spelled
returns-in-Ok-finish-clause-spelled g c =
    has_tokens c.args.text.now c.in-Ok.tokens.items c.reading.invariant c.in-Ok.ensures.begins
    (nil_from_length c.in-Ok.tokens.items
    (let none = eqb-true (vec_len c.in-Ok.tokens) 0 (sym c.is_empty.ensures ∙ c.if-is_empty.true) in
    omega (arith, none, c.in-Ok.tokens.ok)))
    c.in-Ok.ensures.ends (λ tokens read. c.in-Ok-finish.ensures.finished tokens read)

pub returns-in-Err-finish-clause-refused : goal.returns-in-Err-finish-clause-refused
returns-in-Err-finish-clause-refused g c =
    let Q : TextFault → Type 0 = λ fault. ExplainsTextBy g.R.TokenReader.Explains fault c.args.text.now in
    if_mapped Q c.in-Err-finish.fail c.map.result
    (λ e d is cut. subst Q (sym is)
    (has_tokens c.args.text.now c.in-Ok.tokens.items c.reading.invariant c.in-Ok.ensures.begins
    (nil_from_length c.in-Ok.tokens.items
    (let none = eqb-true (vec_len c.in-Ok.tokens) 0 (sym c.is_empty.ensures ∙ c.if-is_empty.true) in
    omega (arith, none, c.in-Ok.tokens.ok)))
    c.in-Ok.ensures.ends cut))
    c.map.ensures c.in-Err-finish.ensures.cut

pub returns-in-Err-Fault-clause-refused : goal.returns-in-Err-Fault-clause-refused
returns-in-Err-Fault-clause-refused g c =
    if_weaker c.first_fault.result (λ fault errs.
    wrong_token _ c.args.text.now c.in-Ok.tokens.items c.deref.result.now c.in-Err-Fault.fault fault
    c.deref.ensures.value c.reading.invariant c.in-Ok.ensures.begins
    (rw c.in-Err-Fault.field-0-is at c.in-Err-Fault.ensures.refused) errs) c.first_fault.ensures

pub reading-preserved : goal.reading-preserved
reading-preserved g c =
    past_more c.in-Ok.tokens.items c.deref.result.now c.deref.ensures.value c.reading.invariant c.in-Ok.ensures.begins
    (λ before read. c.in-Ok-read.ensures.read before read)

pub returns-in-Err-clause-refused : goal.returns-in-Err-clause-refused
returns-in-Err-clause-refused g c =
    let Q : TextFault → Type 0 = λ fault. ExplainsTextBy g.R.TokenReader.Explains fault c.args.text.now in
    if_mapped Q c.in-Err.fail c.map-in-Err.result
    (λ e d is s. subst Q (sym is) (piece_fault c.args.text.now e c.reading.invariant s))
    c.map-in-Err.ensures c.in-Err.ensures.fault
