-- What the program does, in short: stated of the words of a call, of the files before and after it, of what it printed
-- and of its status. It is the clause `headline` of `ghostrider`. Read `Watched` first, which `Core` contains; and then as
-- much of `More` as you use.
-- (GhostRider, ASPLOS 2015: memory-trace obliviousness; here of words and files.)
use Rattle.std.specs.Prelude.{ℕ, List}
use Rattle.gr_outside.specs.Shelf.{Files}
use Rattle.trace_patterns.specs.Accepts.{Accepts}
use Rattle.command_words.specs.CommandLines.{Text}
use Rattle.call_laws.specs.Core.{Core}
use Rattle.call_laws.specs.More.{More}

-- `Failed` says that a read, a write or a print failed
pub record Headline (Failed : Type 0) (words : List Text) (files afterwards : Files) (put : List ℕ) (status : ℕ)
    : Type 0 where
  pub core : Core Accepts Failed words files afterwards put status
  pub more : More Accepts Failed words files afterwards put status
