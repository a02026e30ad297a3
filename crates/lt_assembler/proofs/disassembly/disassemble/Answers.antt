use Rattle.std.proofs.Common.{ℕ, ◌≤◌, List, ◌++◌, length, subst, sym, ap, ◌∙◌}
use Rattle.lt_assembler.specs.Prelude.{canonical}
use Rattle.lt_assembler.proofs.CanonicalSizes.{canonical_short}
use Rattle.lt_assembler.proofs.disassembly.disassemble.Goals as goal

pub returns-clause-within_limit : goal.returns-clause-within_limit
returns-clause-within_limit c =
    let text =
    c.in_ok-put_object.ensures.written
    ∙ ap (λ (front : List ℕ). front ++ canonical c.args.object.now) c.new-out.ensures.items in
    subst (λ t. length t ≤ 67108864) (sym text) (canonical_short c.args.object.now c.put_object.ensures.in_range)
