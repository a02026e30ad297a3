use Rattle.std.proofs.Common.{◌≡◌, ◌≤◌, ◌+◌, length}
use Rattle.lt_assembler.specs.Prelude.{lines, empty_draft, read_lines, draft_of}
use Rattle.lt_assembler.proofs.assembly.read_text.Given as goal

abbrev pub invariant-loop-list : goal.invariant-loop-list
invariant-loop-list l = record {
  read : read_lines l.number (lines l.rest) (draft_of l.draft) ≡ read_lines 1 (lines l.fn.text) empty_draft;
  number : l.number + length (lines l.rest) ≡ length (lines l.fn.text) + 1;
  small : l.number + length l.rest ≤ length l.fn.text + 1;
}

abbrev pub decreases-loop-list : goal.decreases-loop-list
decreases-loop-list l = length l.rest
