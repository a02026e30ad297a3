use Rattle.std.proofs.Common.{true≢false, is_some, sym, ap, ◌∙◌}
use Rattle.command_words.specs.Prelude.{texts}
use Rattle.call_laws.specs.Prelude.{work_of}
use Rattle.ghost_front.specs.Prelude.{around}
use Rattle.ghost_front.proofs.CallEnds.{serves_keep, serves_plain, told_keeps}
use Rattle.ghost_front.proofs.Saying.{says_nothing}
use Rattle.ghost_front.proofs.top.end_call.Goals as goal

pub returns-in-Some-clause-served : goal.returns-in-Some-clause-served
returns-in-Some-clause-served g c front tool =
    absurd (true≢false (sym (ap is_some c.in-Some.is) ∙ c.request_in.ensures ∙ front))

pub returns-in-Some-clause-plain : goal.returns-in-Some-clause-plain
returns-in-Some-clause-plain g c written = says_nothing (g.E.Sink.seen c.args.errors.now)

pub returns-in-Some-clause-others : goal.returns-in-Some-clause-others
returns-in-Some-clause-others g c =
    told_keeps (work_of (texts c.args.words.now)) c.args.shelf.now c.answer.new.shelf c.answer.ensures.files

pub returns-in-Some-tool_in-clause-served : goal.returns-in-Some-tool_in-clause-served
returns-in-Some-tool_in-clause-served g c front verb =
    absurd (true≢false (sym (ap is_some c.in-Some-tool_in.is) ∙ c.tool_in.ensures ∙ verb))

pub returns-in-Some-tool_in-clause-untouched : goal.returns-in-Some-tool_in-clause-untouched
returns-in-Some-tool_in-clause-untouched g c verb none =
    absurd (true≢false (sym (ap is_some c.in-Some-tool_in.is) ∙ c.tool_in.ensures ∙ verb))

pub returns-in-Some-tool_in-clause-plain : goal.returns-in-Some-tool_in-clause-plain
returns-in-Some-tool_in-clause-plain g c written = c.serve_tool.ensures.plain

pub returns-in-Some-tool_in-clause-others : goal.returns-in-Some-tool_in-clause-others
returns-in-Some-tool_in-clause-others g c = c.serve_tool.ensures.others

pub returns-in-None-clause-served : goal.returns-in-None-clause-served
returns-in-None-clause-served g c front verb = c.serve.ensures.served

pub returns-in-None-clause-untouched : goal.returns-in-None-clause-untouched
returns-in-None-clause-untouched g c verb none = c.serve.ensures.untouched none

pub returns-in-None-clause-plain : goal.returns-in-None-clause-plain
returns-in-None-clause-plain g c written =
    serves_plain (texts c.args.words.now)
    (around c.args.shelf.now c.args.input.now (g.O.Sink.seen c.args.out.now) (g.E.Sink.seen c.args.errors.now))
    (around c.serve.new.shelf c.serve.new.input (g.O.Sink.seen c.serve.new.out) (g.E.Sink.seen c.serve.new.errors))
    c.serve.result.status written c.serve.ensures.served

pub returns-in-None-clause-others : goal.returns-in-None-clause-others
returns-in-None-clause-others g c =
    serves_keep (texts c.args.words.now)
    (around c.args.shelf.now c.args.input.now (g.O.Sink.seen c.args.out.now) (g.E.Sink.seen c.args.errors.now))
    (around c.serve.new.shelf c.serve.new.input (g.O.Sink.seen c.serve.new.out) (g.E.Sink.seen c.serve.new.errors))
    c.serve.result.status c.serve.ensures.served
