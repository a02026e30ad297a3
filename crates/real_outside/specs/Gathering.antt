-- How contracts see a sink over a writer, which may hold bytes back. The bytes that the writer holds may be visible to
-- contracts (as in the standard library's `Write`); those of standard output aren't. (This project's profile.)
use Rattle.std.specs.Prelude.{◌≡◌, ℕ, ◌+◌, ◌-◌, ◌^◌, ◌≤◌, min, List, length, take, Option}
use Rattle.std.specs.Io.KnownBytes.{Appends, append_known}

-- the bytes that the writer holds, those that wait to be passed on, how many bytes were put, up to 2^64 - 1, and how
-- many calls failed
pub record Gathered : Type 0 where
  pub handed : Option (List ℕ)
  pub waiting : List ℕ
  pub put : ℕ
  pub faults : ℕ

-- the most bytes that wait
abbrev pub most_waiting : ℕ
most_waiting = 65536

-- the bytes that the writer holds, followed by those that wait
abbrev pub gathered : Gathered → Option (List ℕ)
gathered sink = append_known sink.handed sink.waiting

-- some bytes were taken: they follow all that was taken before, and are counted
pub record Takes (before after : Gathered) (piece : List ℕ) : Type 0 where
  pub bytes : Appends (gathered before) (gathered after) piece
  pub counted : after.put ≡ min (before.put + length piece) (2 ^ 64 - 1)

-- a prefix of some bytes was taken, possibly none but never all of them
abbrev pub TakesLess : Gathered → Gathered → List ℕ → Type 0
TakesLess before after piece = (n : ℕ) × (n ≤ length piece - 1) × Takes before after (take n piece)
