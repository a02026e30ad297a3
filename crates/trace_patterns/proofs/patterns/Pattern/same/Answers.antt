use Rattle.trace_patterns.proofs.PatternEquality.{decides_numbers}
use Rattle.trace_patterns.proofs.patterns.Pattern.same.Goals as goal

pub returns-then-self-other : goal.returns-then-self-other
returns-then-self-other c =
    rw (← c.self.view_is, ← c.other.view_is) (decides_numbers _ _ c.eq.result c.if-self-other.true c.eq.ensures)
