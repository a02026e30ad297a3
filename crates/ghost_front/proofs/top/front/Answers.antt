use Rattle.std.proofs.Common.{◌≡◌, false, List, ℕ, subst}
use Rattle.command_words.specs.Prelude.{texts}
use Rattle.call_laws.specs.Prelude.{work_of}
use Rattle.ghost_front.specs.Prelude.{asks_front, asks_tool, dashes_in, KeepsOthers, SaysPlain, Serves, around}
use Rattle.ghost_front.proofs.CallEnds.{said_later}
use Rattle.ghost_front.proofs.Saying.{says_then}
use Rattle.ghost_front.proofs.top.front.Goals as goal

pub returns-clause-served : goal.returns-clause-served
returns-clause-served g c =
    let before =
    around c.args.shelf.now c.args.input.now (g.O.Sink.seen c.args.out.now) (g.E.Sink.seen c.args.errors.now) in
    let now = c.end_call-ended.new in
    subst
    (λ (ws : List (List ℕ)). asks_front ws ≡ false → asks_tool ws ≡ false
    → Serves ws before
    (around now.shelf now.input (g.O.Sink.seen now.out) (g.E.Sink.seen c.explain.new.errors))
    c.end_call-ended.result.status)
    c.asked_words-asked.ensures
    (λ front tool. said_later (texts c.asked_words-asked.result.now) before now.shelf now.input
    (g.O.Sink.seen now.out) (g.E.Sink.seen now.errors) (g.E.Sink.seen c.explain.new.errors)
    c.end_call-ended.result.status c.explain.ensures (c.end_call-ended.ensures.served front tool))

pub returns-clause-untouched : goal.returns-clause-untouched
returns-clause-untouched g c =
    subst
    (λ (ws : List (List ℕ)). asks_tool ws ≡ false → (dashes_in ws).read ≡ 0
    → c.end_call-ended.new.input ≡ c.args.input.now)
    c.asked_words-asked.ensures c.end_call-ended.ensures.untouched

pub returns-clause-plain : goal.returns-clause-plain
returns-clause-plain g c =
    subst
    (λ (ws : List (List ℕ)). (dashes_in ws).written ≡ false
    → SaysPlain (g.E.Sink.seen c.args.errors.now) (g.E.Sink.seen c.explain.new.errors))
    c.asked_words-asked.ensures
    (λ written. says_then (g.E.Sink.seen c.args.errors.now) (g.E.Sink.seen c.end_call-ended.new.errors)
    (g.E.Sink.seen c.explain.new.errors)
    (c.end_call-ended.ensures.plain written) c.explain.ensures)

pub returns-clause-others : goal.returns-clause-others
returns-clause-others g c =
    subst (λ (ws : List (List ℕ)). KeepsOthers (work_of ws) c.args.shelf.now.files c.end_call-ended.new.shelf.files)
    c.asked_words-asked.ensures c.end_call-ended.ensures.others
