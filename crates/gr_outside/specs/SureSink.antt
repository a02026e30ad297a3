-- How contracts see a sink in memory that never fails. (This project's profile.)
use Rattle.std.specs.Prelude.{ℕ, ◌+◌, ◌-◌, ◌^◌, min, nat_le, List, ◌++◌, length, Option, None, if◌then◌else◌}
use Rattle.std.specs.Option.{option_map}

-- how many bytes the sink was given, up to 2^64 - 1; how many fit; and the bytes, as long as they fit
pub record Counted : Type 0 where
  pub put : ℕ
  pub room : ℕ
  pub held : Option (List ℕ)

-- after a call with these bytes: the bytes are no longer held once they exceed the room
abbrev pub after_counted_put : List ℕ → Counted → Counted
after_counted_put piece sink =
    let put = min (sink.put + length piece) (2 ^ 64 - 1) in
    record sink {
      put = put;
      held = if nat_le put sink.room then option_map (λ bytes. bytes ++ piece) sink.held else None;
    }
