-- How contracts see a shelf over real files, without their contents. (This project's profile.)
use Rattle.std.specs.Prelude.{ℕ}

pub record FaultCounts : Type 0 where
  pub read_faults : ℕ
  pub write_faults : ℕ
  pub starved : ℕ
