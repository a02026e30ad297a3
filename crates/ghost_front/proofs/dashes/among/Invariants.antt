use Rattle.std.proofs.Common.{◌≡◌, ◌≤◌, ◌+◌, drop}
use Rattle.command_words.specs.Prelude.{texts}
use Rattle.ghost_front.specs.Prelude.{dashes_among}
use Rattle.ghost_front.proofs.dashes.among.Given as goal

abbrev pub invariant-loop-name : goal.invariant-loop-name
invariant-loop-name l = (l.count ≤ l.name-index)
    × (l.count + dashes_among (texts (drop l.name-index l.names)) ≡ dashes_among (texts l.names))
