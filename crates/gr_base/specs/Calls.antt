-- Calls that are numbered from 0, some of which are to fail. (This project's profile.)
use Rattle.std.specs.Prelude.{ℕ, ◌+◌, ◌-◌, ◌^◌, min, Bool, ◌==◌, List}
use Rattle.std.specs.List.{list_any}

-- the number of the next call, and the numbers of those that fail
pub record Calls : Type 0 where
  pub failing : List ℕ
  pub next : ℕ

-- the next call is one that fails
abbrev pub next_fails : Calls → Bool
next_fails calls = list_any (λ number. number == calls.next) calls.failing

-- one more, up to 2^64 - 1
abbrev pub one_more : ℕ → ℕ
one_more count = min (count + 1) (2 ^ 64 - 1)

-- after the next call
abbrev pub after_call : Calls → Calls
after_call calls = record calls { next = one_more calls.next }
