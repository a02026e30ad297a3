use Rattle.std.proofs.Common.{true≢false, sym, ◌∙◌}
use Rattle.clap.specs.Words.{app_of}
use Rattle.command_words.specs.Prelude.{texts}
use Rattle.command_words.proofs.Wording.{refused-wrong}
use Rattle.run_tools.proofs.ToolFound.{found_words}
use Rattle.run_tools.proofs.words.matches_in.Goals as goal

pub returns-in-Ok : goal.returns-in-Ok
returns-in-Ok c =
    λ free. found_words (app_of c.args.command) (texts c.args.words.now) c.in-Ok.matches free c.in-Ok.ensures.matches
    (c.in-Ok.ensures.kinds free)

pub returns-else-wants_memory : goal.returns-else-wants_memory
returns-else-wants_memory c =
    λ free. refused-wrong _ c.in-Err.error (c.in-Err.ensures.kinds free)
    (λ e. absurd (true≢false (sym (c.wants_memory.ensures.1 e) ∙ c.if-wants_memory.false)))
