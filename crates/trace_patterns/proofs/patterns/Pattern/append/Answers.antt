use Rattle.std.proofs.Common.{◌≡◌, ◌<◌, ◌++◌, ◌∙◌, length, ap, arith}
use Rattle.trace_patterns.proofs.PatternLaws.{joined-by_widening}
use Rattle.trace_patterns.proofs.patterns.Pattern.append.Goals as goal

pub returns-then-start-len-clause-added : goal.returns-then-start-len-clause-added
returns-then-start-len-clause-added c =
    let before = c.self.inside.parts in
    let after = c.extend_from_slice.new.self in
    let items : after.items ≡ before.items ++ c.other.inside.parts.items = c.in_ok-extend_from_slice.ensures.items
    ∙ ap (λ l. before.items ++ l) c.as_slice.ensures.value in
    let start : c.len-start.result ≡ length before.items = omega (arith, c.len-start.ensures, before.ok.0) in
    let inside : c.len-start.result < length after.items = omega
    (arith, c.if-start-len.true, c.len.ensures, after.ok.0) in
    rw (← c.self.view_is, ← c.other.view_is)
    (joined-by_widening before.items c.other.inside.parts.items after.items c.len-start.result c.self.inside.last
    c.other.inside.last c.index_mut.result.now items start inside c.index_mut.ensures.value)
