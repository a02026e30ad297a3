use Rattle.std.proofs.Common.{◌≡◌, ◌<◌, ◌≤◌, ℕ, length, None}
use Rattle.region_walk.specs.declared.states.Slot.TheVariants.{Any}
use Rattle.region_walk.specs.Prelude.{IsCommonOf, number_in, slot_at}
use Rattle.region_walk.proofs.states.RegionState.keep_common.Given as goal

abbrev pub invariant-loop-register : goal.invariant-loop-register
invariant-loop-register l = record {
  done : (q : ℕ) → q < l.register
      → IsCommonOf None (number_in l.initial.self q) (number_in l.other q) (number_in l.self q);
  rest : (q : ℕ) → l.register ≤ q → number_in l.self q ≡ number_in l.initial.self q;
  size : length l.self.registers ≡ length l.initial.self.registers;
  slots : l.self.slots ≡ l.initial.self.slots;
}

abbrev pub invariant-loop-slot : goal.invariant-loop-slot
invariant-loop-slot l = record {
  done : (q : ℕ) → q < l.slot → IsCommonOf Any (slot_at l.initial.self q) (slot_at l.other q) (slot_at l.self q);
  rest : (q : ℕ) → l.slot ≤ q → slot_at l.self q ≡ slot_at l.initial.self q;
  size : length l.self.slots ≡ length l.initial.self.slots;
  registers : l.self.registers ≡ l.initial.self.registers;
}
