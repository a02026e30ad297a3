-- How contracts see a sink: its bytes, if they are visible, and how many calls failed. The count never falls, and stays
-- at 2^64 - 1. (This project's profile.)
use Rattle.std.specs.Prelude.{ℕ, List, Option}

pub record SinkSeen : Type 0 where
  pub held : Option (List ℕ)
  pub faults : ℕ
