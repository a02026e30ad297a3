use Rattle.std.proofs.Common.{◌≡◌, ◌+◌, length, arith}
use Rattle.flat_code.specs.Owned.{statement_of}
use Rattle.flat_code.proofs.Listed.{local_more}
use Rattle.flat_code.proofs.variables.with_locals.Goals as goal

pub loop-value-preserved : goal.loop-value-preserved
loop-value-preserved c =
    let number : c.in_ok-k.k ≡ c.args.n + length c.pop.new.self.items =
    omega (arith, c.in_ok-k.ensures, c.len.ensures, c.pop.new.self.ok) in
    local_more c.args.n c.in_ok-k.k c.loop-value.left.items c.pop.new.self.items c.in-Some.value
    (statement_of c.loop-value.made) (statement_of c.in_ok-made.made) _ c.in-Some.ensures.items number
    c.in_ok-made.ensures c.loop-value.invariant
