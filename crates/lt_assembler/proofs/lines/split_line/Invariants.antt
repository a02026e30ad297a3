use Rattle.std.proofs.Common.{◌≡◌, ◌≤◌, ◌++◌, true, length, map, take}
use Rattle.std.specs.Borrow.{Bor}
use Rattle.std.specs.Prelude.{List, ℕ}
use Rattle.lt_assembler.specs.Prelude.{is_ascii_line, first_line, line_words, behind_line}
use Rattle.lt_assembler.proofs.lines.split_line.Given as goal

abbrev pub invariant-loop-word : goal.invariant-loop-word
invariant-loop-word l = record {
  few : l.count ≤ 10;
  all : length l.list ≡ 10;
  words : is_ascii_line (first_line l.rest) ≡ true
      → map (λ (w : Bor (List ℕ)). w.now) (take l.count l.list) ++ line_words l.rest ≡ line_words l.fn.text;
  ascii : is_ascii_line (first_line l.rest) ≡ is_ascii_line (first_line l.fn.text);
  behind : behind_line l.rest ≡ behind_line l.fn.text;
}

abbrev pub decreases-loop-word : goal.decreases-loop-word
decreases-loop-word l = length l.rest
