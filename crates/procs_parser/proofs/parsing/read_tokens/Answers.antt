use Rattle.std.proofs.Common.{◌≡◌, arith, sym, ap, ◌∙◌}
use Rattle.src_parser.specs.Prelude.{limits, Goes, Wrong, TooMuch}
use Rattle.procs_parser.specs.Prelude.{taken, advance_of, state_of}
use Rattle.src_parser.proofs.SeveralTokens.{reads_token, stops_token, reads_all}
use Rattle.procs_parser.proofs.parsing.read_tokens.Goals.{in-Goes, in-Opens}
use Rattle.procs_parser.proofs.parsing.read_tokens.Goals as goal

pub returns-in-Wrong-clause-stops : goal.returns-in-Wrong-clause-stops
returns-in-Wrong-clause-stops c =
    let h : taken limits (state_of c.loop-token.state) c.token-item.result.kind ≡ Wrong =
    sym c.in-Ok.ensures ∙ ap (λ t. advance_of t (state_of c.take.new.state)) c.in-Wrong.is in
    stops_token taken c.args.tokens.now c.loop-token.token-index c.token-item.result (state_of c.args.state.now)
    (state_of c.loop-token.state) Wrong (omega arith) c.token-item.is c.loop-token.invariant h

pub returns-in-TooMuch-clause-stops : goal.returns-in-TooMuch-clause-stops
returns-in-TooMuch-clause-stops c =
    let h : taken limits (state_of c.loop-token.state) c.token-item.result.kind ≡ TooMuch =
    sym c.in-Ok.ensures ∙ ap (λ t. advance_of t (state_of c.take.new.state)) c.in-TooMuch.is in
    stops_token taken c.args.tokens.now c.loop-token.token-index c.token-item.result (state_of c.args.state.now)
    (state_of c.loop-token.state) TooMuch (omega arith) c.token-item.is c.loop-token.invariant h

pub loop-token-preserved : goal.loop-token-preserved
loop-token-preserved c =
    let next = state_of c.match-advance.state in
    let goes = λ (h : taken limits (state_of c.loop-token.state) c.token-item.result.kind ≡ Goes next).
    reads_token taken c.args.tokens.now c.loop-token.token-index c.token-item.result (state_of c.args.state.now)
    (state_of c.loop-token.state) next (omega arith) c.token-item.is c.loop-token.invariant h in
    elim c.match-advance.branch [
      | in-Goes w ↦ goes
          (sym c.in-Ok.ensures
          ∙ (ap (λ t. advance_of t (state_of c.take.new.state)) w.in-Goes.is
          ∙ ap (λ s. Goes (state_of s)) (sym w.state-is)))
      | in-Opens w ↦ goes
          (sym c.in-Ok.ensures
          ∙ (ap (λ t. advance_of t (state_of c.take.new.state)) w.in-Opens.is
          ∙ ap (λ s. Goes (state_of s)) (sym (w.state-is ∙ w.put.ensures))))
    ]

pub returns-clause-leads : goal.returns-clause-leads
returns-clause-leads c =
    reads_all taken c.args.tokens.now c.loop-token.token-index (state_of c.args.state.now) (state_of c.loop-token.state)
    (omega arith) c.loop-token.invariant
