-- Each access to a recursive bank shows its paths. A proof, only for the law of the bank.
use Rattle.std.proofs.Common.{◌≡◌, ℕ, suc, List, [], ◌∷◌, length, refl, ap}
use Rattle.rand_core.specs.Stream.{Stream}
use Rattle.path_oram.specs.Words.{words_left}
use Rattle.recursive_oram.specs.Levels.{Level, levels_after, shown_ahead}

pub shown-each : (levels : List Level) (words : Stream) (blocks : List ℕ)
    → length (shown_ahead levels words blocks) ≡ length blocks
shown-each levels words [] = refl
shown-each levels words (block ∷ blocks) =
    ap suc (shown-each (levels_after levels block words) (words_left (length levels) words) blocks)
