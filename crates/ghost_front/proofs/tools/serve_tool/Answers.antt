use Rattle.command_words.specs.Prelude.{texts}
use Rattle.call_laws.specs.Prelude.{work_of}
use Rattle.ghost_front.proofs.CallEnds.{told_keeps_after}
use Rattle.ghost_front.proofs.tools.serve_tool.Goals as goal

pub returns-then-is_test-clause-others : goal.returns-then-is_test-clause-others
returns-then-is_test-clause-others g c =
    told_keeps_after (work_of (texts c.args.words.now)) c.args.shelf.now c.take_input.new.shelf c.serve_test.new.shelf
    c.take_input.ensures.only_input c.serve_test.ensures.files

pub returns-clause-others : goal.returns-clause-others
returns-clause-others g c =
    told_keeps_after (work_of (texts c.args.words.now)) c.args.shelf.now c.take_input.new.shelf c.run_tool.new.shelf
    c.take_input.ensures.only_input c.run_tool.ensures.files
