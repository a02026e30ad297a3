use Rattle.std.proofs.Common.{◌≡◌, arith, sym, ap, ◌∙◌}
use Rattle.src_parser.specs.Prelude.{limits, advance_of, state_of, advanced, Goes, Wrong, TooMuch}
use Rattle.src_parser.proofs.SeveralTokens.{reads_more, reads_none, reads_token, stops_token, reads_all}
use Rattle.src_parser.proofs.parsing.read_tokens.Goals as goal

pub loop-at-preserved-then-count-gt0 : goal.loop-at-preserved-then-count-gt0
loop-at-preserved-then-count-gt0 c =
    let within = c.in-Ok.ensures.within in
    let rest = c.split_at.ensures.back_len in (
      omega arith,
      reads_more advanced c.args.tokens.now c.split_at.result.1.now c.loop-at.at c.in-Ok.count (state_of c.args.state.now)
          (state_of c.loop-at.state) (state_of c.read_assignment.new.state) c.split_at.ensures.back
          c.loop-at.invariant.1 c.in-Ok.ensures.leads.reads,
    )

pub loop-at-preserved : goal.loop-at-preserved
loop-at-preserved c =
    let read =
    reads_none advanced c.args.tokens.now c.split_at.result.1.now c.loop-at.at c.in-Ok.count (state_of c.args.state.now)
    (state_of c.loop-at.state) (state_of c.read_assignment.new.state) c.split_at.ensures.back (omega arith)
    c.loop-at.invariant.1 c.in-Ok.ensures.leads.reads in
    let h : advanced limits (state_of c.read_assignment.new.state) c.index-tokens-at.result.kind ≡ Goes (state_of c.take.new.state) =
    sym c.in-Ok-take.ensures ∙ ap (λ t. advance_of t (state_of c.take.new.state)) c.in-Goes.is in (
      omega arith,
      reads_token advanced c.args.tokens.now c.loop-at.at c.index-tokens-at.result (state_of c.args.state.now)
          (state_of c.read_assignment.new.state) (state_of c.take.new.state) (omega arith) c.index-tokens-at.is read h,
    )

pub returns-in-Wrong-clause-stops : goal.returns-in-Wrong-clause-stops
returns-in-Wrong-clause-stops c =
    let read =
    reads_none advanced c.args.tokens.now c.split_at.result.1.now c.loop-at.at c.in-Ok.count (state_of c.args.state.now)
    (state_of c.loop-at.state) (state_of c.read_assignment.new.state) c.split_at.ensures.back (omega arith)
    c.loop-at.invariant.1 c.in-Ok.ensures.leads.reads in
    let h : advanced limits (state_of c.read_assignment.new.state) c.index-tokens-at.result.kind ≡ Wrong =
    sym c.in-Ok-take.ensures ∙ ap (λ t. advance_of t (state_of c.take.new.state)) c.in-Wrong.is in
    stops_token advanced c.args.tokens.now c.loop-at.at c.index-tokens-at.result (state_of c.args.state.now)
    (state_of c.read_assignment.new.state) Wrong (omega arith) c.index-tokens-at.is read h

pub returns-in-TooMuch-clause-stops : goal.returns-in-TooMuch-clause-stops
returns-in-TooMuch-clause-stops c =
    let read =
    reads_none advanced c.args.tokens.now c.split_at.result.1.now c.loop-at.at c.in-Ok.count (state_of c.args.state.now)
    (state_of c.loop-at.state) (state_of c.read_assignment.new.state) c.split_at.ensures.back (omega arith)
    c.loop-at.invariant.1 c.in-Ok.ensures.leads.reads in
    let h : advanced limits (state_of c.read_assignment.new.state) c.index-tokens-at.result.kind ≡ TooMuch =
    sym c.in-Ok-take.ensures ∙ ap (λ t. advance_of t (state_of c.take.new.state)) c.in-TooMuch.is in
    stops_token advanced c.args.tokens.now c.loop-at.at c.index-tokens-at.result (state_of c.args.state.now)
    (state_of c.read_assignment.new.state) TooMuch (omega arith) c.index-tokens-at.is read h

pub returns-clause-leads : goal.returns-clause-leads
returns-clause-leads c =
    reads_all advanced c.args.tokens.now c.loop-at.at (state_of c.args.state.now) (state_of c.loop-at.state) (omega arith)
    c.loop-at.invariant.1
