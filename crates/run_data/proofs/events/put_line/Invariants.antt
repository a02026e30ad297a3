use Rattle.std.proofs.Common.{◌≡◌, ◌≤◌, ◌++◌, List, ℕ, length}
use Rattle.gr_base.specs.Prelude.{Adds}
use Rattle.run_data.specs.Prelude.{words_text}
use Rattle.run_data.proofs.events.put_line.Given as goal

abbrev pub decreases-loop-rest : goal.decreases-loop-rest
decreases-loop-rest g l = length l.rest

abbrev pub invariant-loop-rest : goal.invariant-loop-rest
invariant-loop-rest g l = record {
  put : (done : List ℕ) × Adds (g.O.Sink.seen l.fn.out).held (g.O.Sink.seen l.out).held done
      × (done ++ (l.line.items ++ words_text l.rest) ≡ l.fn.line.items ++ words_text l.words);
  head : length l.line.items ≤ 32;
  calm : (g.O.Sink.seen l.out).faults ≡ (g.O.Sink.seen l.fn.out).faults;
}
