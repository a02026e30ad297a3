use Rattle.std.proofs.Common.{arith, sym, ◌∙◌, ap}
use Rattle.gr_base.specs.Prelude.{are_digits}
use Rattle.command_words.proofs.Wording.{number-none}
use Rattle.command_words.proofs.options.number_within.Goals as goal

pub returns-in-Err-clause-value : goal.returns-in-Err-clause-value
returns-in-Err-clause-value c =
    number-none c.args.least c.args.most 64 (omega (arith, c.ranges.most)) c.args.text.now
    (sym (c.if-not-are_digits.ensures ∙ ap are_digits c.as_bytes.ensures.value)) c.in-Err.ensures.value.0
