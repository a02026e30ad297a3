use Rattle.std.proofs.Common.{sym, ◌∙◌}
use Rattle.lt_assembler.specs.Prelude.{draft_of}
use Rattle.lt_assembler.proofs.InRange.{finished_is}
use Rattle.lt_assembler.proofs.assembly.finish.Goals as goal

pub of_parts-requires : goal.of_parts-requires
of_parts-requires c =
    let whole = rw (c.deref.ensures.value, c.deref-2.ensures.value) at c.is_whole.ensures in
    let here = rw c.deref-3.ensures.value at c.in_ok-code.ensures in
    c.requires _ (finished_is c.args.end (draft_of c.args.draft) c.in-Some.profile c.in_ok-code.code.items c.in-Some.is
    (sym whole ∙ c.if-not-is_whole.false) here)
