-- How contracts see a sink in memory that fails at chosen calls. (This project's profile.)
use Rattle.std.specs.Prelude.{ℕ, ◌+◌, Bool, ◌||◌, nat_lt, List, ◌++◌, length, if◌then◌else◌}
use Rattle.gr_base.specs.Calls.{Calls, next_fails, after_call, one_more}

-- the bytes that the sink took, the most that fit, the calls, and how many of them failed
pub record Held : Type 0 where
  pub bytes : List ℕ
  pub room : ℕ
  pub calls : Calls
  pub faults : ℕ

-- the next call, with these bytes, fails: its number is a chosen one, or the bytes would exceed the room
abbrev pub put_fails : List ℕ → Held → Bool
put_fails piece sink = next_fails sink.calls || nat_lt sink.room (length sink.bytes + length piece)

-- after a call with these bytes: if it fails, it adds nothing and raises the count
abbrev pub after_put : List ℕ → Held → Held
after_put piece sink =
    if put_fails piece sink
    then record sink { calls = after_call sink.calls; faults = one_more sink.faults }
    else record sink { calls = after_call sink.calls; bytes = sink.bytes ++ piece }
