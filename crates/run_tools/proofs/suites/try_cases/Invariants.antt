use Rattle.std.proofs.Common.{◌≡◌, ◌↔◌, [], string_bytes}
use Rattle.run_tools.proofs.suites.try_cases.Given as goal

abbrev pub invariant-loop-before : goal.invariant-loop-before
invariant-loop-before l = l.tried.failed ≡ 0 ↔ string_bytes l.tried.lines ≡ []
