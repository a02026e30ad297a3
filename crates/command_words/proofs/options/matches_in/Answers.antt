use Rattle.std.proofs.Common.{true≢false, sym, ◌∙◌}
use Rattle.command_words.proofs.Wording.{refused-wrong}
use Rattle.command_words.proofs.options.matches_in.Goals as goal

pub returns-else-wants_memory : goal.returns-else-wants_memory
returns-else-wants_memory c =
    refused-wrong _ c.in-Err.error (c.in-Err.ensures.kinds c.requires.free)
    (λ e. absurd (true≢false (sym (c.wants_memory.ensures.1 e) ∙ c.if-wants_memory.false)))
