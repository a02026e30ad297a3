-- The result of a call that writes a text to a sink: the whole text was added, or less than it and the fault was
-- counted. (This project's profile.)
use Rattle.std.specs.Prelude.{◌≡◌, ℕ, ◌-◌, ◌^◌, ◌≤◌, List, Option, Result, OnOk, OnErr}
use Rattle.gr_base.specs.Counts.{Rose}
use Rattle.gr_base.specs.Added.{Adds, AddsLess}
use Rattle.gr_outside.specs.declared.sink.SinkFailed.{SinkFailed}

-- the bytes and the faults of the sink before and after the call
pub record PutsText (old new : Option (List ℕ)) (before now : ℕ) (text : List ℕ)
    (result : Result (Unit {0}) SinkFailed) : Type 0 where
  pub added : OnOk result (Adds old new text)
  pub calm : OnOk result (now ≡ before)
  pub cut : OnErr result (AddsLess old new text)
  pub failed : OnErr result (Rose before now)
  pub count : before ≤ now
  pub count_stays : before ≡ 2 ^ 64 - 1 → now ≡ 2 ^ 64 - 1
