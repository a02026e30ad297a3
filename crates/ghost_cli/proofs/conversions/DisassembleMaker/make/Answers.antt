use Rattle.std.proofs.Common.{refl}
use Rattle.lt_assembler.specs.Prelude.{canonical}
use Rattle.call_replies.specs.declared.replies.Done.TheVariants.{Disassembled}
use Rattle.call_steps.specs.Prelude.{Writes}
use Rattle.call_steps.proofs.Reaching.{passed, passed-memory, to-write}
use Rattle.ghost_cli.proofs.conversions.DisassembleMaker.make.Goals as goal

pub returns-in_err-object-clause-stopped : goal.returns-in_err-object-clause-stopped
returns-in_err-object-clause-stopped g c =
    passed c.from_residual.result _ c.from_residual.ensures.1
    (c.in_err-object.ensures.stopped (λ o. Writes c.args.words.written.now (canonical o) Disassembled))

pub returns-in_err-bytes-clause-stopped : goal.returns-in_err-bytes-clause-stopped
returns-in_err-bytes-clause-stopped g c =
    passed-memory c.from_residual-in_err-bytes.result c.from_residual-in_err-bytes.ensures.1
    (c.in_ok-object.ensures.found (λ o. Writes c.args.words.written.now (canonical o) Disassembled))

pub returns-clause-made : goal.returns-clause-made
returns-clause-made g c =
    to-write (c.in_ok-object.ensures.found (λ o. Writes c.args.words.written.now (canonical o) Disassembled))
    c.in_ok-bytes.ensures.text refl
