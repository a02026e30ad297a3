use Rattle.std.proofs.Common.{◌≡◌, length, reverse, take}
use Rattle.path_oram.specs.Prelude.{words_read}
use Rattle.path_oram.proofs.ReadWords.{IsTable}
use Rattle.path_oram.proofs.runs.read_and_next.Given as goal

abbrev pub invariant-loop-place : goal.invariant-loop-place
invariant-loop-place l = record {
  numbers : l.numbers.items ≡ words_read l.count (take l.place l.blocks);
  size : length l.last.items ≡ l.count;
  table : IsTable l.count (reverse (take l.place l.blocks)) l.last.items;
}
