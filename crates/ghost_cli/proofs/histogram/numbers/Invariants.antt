use Rattle.std.proofs.Common.{◌≡◌}
use Rattle.call_steps.specs.Prelude.{histogram_number, histogram_numbers}
use Rattle.ghost_cli.proofs.histogram.numbers.Given as goal

abbrev pub invariant-loop : goal.invariant-loop
invariant-loop l = record {
  words : l.words.items ≡ histogram_numbers l.counter;
  last : l.last ≡ histogram_number l.counter;
}
