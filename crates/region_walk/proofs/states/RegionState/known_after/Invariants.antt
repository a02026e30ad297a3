use Rattle.std.proofs.Common.{◌≡◌, ◌<◌, ◌≤◌, ℕ, length, None}
use Rattle.std.specs.Prelude.{is_none}
use Rattle.trace_patterns.specs.Prelude.{is_secret, bank_known}
use Rattle.region_walk.specs.Prelude.{bank_of, number_in, slot_at}
use Rattle.region_walk.proofs.states.RegionState.known_after.Given as goal

abbrev pub invariant-loop-register : goal.invariant-loop-register
invariant-loop-register l = record {
  done : (q : ℕ) → q < l.register → is_secret l.known q ≡ is_none (number_in l.self q);
  size : length l.known.secret ≡ 32;
  banks : l.known.banks ≡ l.initial.known.banks;
}

abbrev pub invariant-loop-slot : goal.invariant-loop-slot
invariant-loop-slot l = record {
  done : (q : ℕ) → q < l.slot → bank_known l.known q ≡ bank_of (slot_at l.self q);
  rest : (q : ℕ) → l.slot ≤ q → bank_known l.known q ≡ None;
  size : length l.known.banks ≡ 8;
  secret : l.known.secret ≡ l.initial.known.secret;
}
