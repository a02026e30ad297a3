use Rattle.std.proofs.Common.{◌≡◌, ◌+◌, ◌*◌, ◌++◌, ◌≤◌, length}
use Rattle.std.specs.Option.{option_map}
use Rattle.command_words.specs.Prelude.{in_pairs, texts}
use Rattle.machine_verbs.proofs.bus.pairs_in.Given as goal

abbrev pub invariant-pairing : goal.invariant-pairing
invariant-pairing l = record {
  so_far : option_map (λ more. l.pairs.items ++ more) (in_pairs (texts l.rest)) ≡ in_pairs (texts l.names);
  count : 2 * length l.pairs.items + length l.rest ≡ length l.names;
  most : length l.names ≤ 16;
}

abbrev pub decreases-pairing : goal.decreases-pairing
decreases-pairing l = length l.rest
