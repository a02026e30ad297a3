use Rattle.std.proofs.Common.{subst, sym}
use Rattle.std.specs.Str.{IsUtf8}
use Rattle.run_data.proofs.NameTexts.{IsUtf8-name}
use Rattle.run_data.proofs.inputs.name_text.Goals as goal

pub unreachable-requires : goal.unreachable-requires
unreachable-requires c =
    c.in-Err.ensures.cases.0
    (subst IsUtf8 (sym c.bytes.ensures.bytes) (IsUtf8-name c.args.name.now c.bytes.ensures.fits))
