use Rattle.std.proofs.Common.{refl}
use Rattle.src_lexer.proofs.TokenByToken.{all_read}
use Rattle.src_lexer.proofs.SpansOfTokens.{spans_of_text, slices}
use Rattle.src_lexer.proofs.lexing.lex.Goals as goal

pub returns-clause-tokens : goal.returns-clause-tokens
returns-clause-tokens c =
    let read = c.in_ok-read.ensures in
    all_read c.args.text.now c.in_ok-read.read.end c.in_ok-read.read.tokens.items read.begins read.sizes read.inside
    read.stops

pub returns-clause-order : goal.returns-clause-order
returns-clause-order c =
    let read = c.in_ok-read.ensures in
    spans_of_text c.args.text.now c.in_ok-read.read.tokens.items
    (all_read c.args.text.now c.in_ok-read.read.end c.in_ok-read.read.tokens.items read.begins read.sizes read.inside
    read.stops)

pub returns-clause-slices : goal.returns-clause-slices
returns-clause-slices c =
    let read = c.in_ok-read.ensures in
    slices
    (all_read c.args.text.now c.in_ok-read.read.end c.in_ok-read.read.tokens.items read.begins read.sizes read.inside
    read.stops) c.args.text.now refl
