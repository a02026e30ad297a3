use Rattle.std.proofs.Common.{vec_len, sym, ◌∙◌, eqb-true, refl, subst, arith}
use Rattle.std.proofs.lemmas.List.{nil_from_length}
use Rattle.gr_base.proofs.Fails.{if_mapped}
use Rattle.src_parser.specs.Prelude.{ErrsFirst}
use Rattle.src_parser.proofs.TextTokens.{past_more, left_fault, left_splits}
use Rattle.src_parser.proofs.texts.first_fault.Goals as goal

pub returns-then-is_empty : goal.returns-then-is_empty
returns-then-is_empty c =
    left_splits c.in-Ok.tokens.items c.args.fault c.skipping.invariant c.in-Ok.ensures.begins
    (nil_from_length c.in-Ok.tokens.items
    (let none = eqb-true (vec_len c.in-Ok.tokens) 0 (sym c.is_empty.ensures ∙ c.if-is_empty.true) in
    omega (arith, none, c.in-Ok.tokens.ok)))
    c.in-Ok.ensures.ends

pub skipping-preserved : goal.skipping-preserved
skipping-preserved c =
    past_more c.in-Ok.tokens.items c.in-Ok.tokens.items refl c.skipping.invariant c.in-Ok.ensures.begins
    (λ tokens is. tt)

pub returns-in-Err : goal.returns-in-Err
returns-in-Err c =
    if_mapped (ErrsFirst c.args.lexer c.args.fault) c.in-Err.fail c.map.result
    (λ e d is s. subst (ErrsFirst c.args.lexer c.args.fault) (sym is)
    (left_fault c.args.fault e c.skipping.invariant s))
    c.map.ensures c.in-Err.ensures.fault
