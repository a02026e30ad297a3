-- Runs that are related by what is known are related by each claim that it fits.
use Rattle.std.proofs.Common.{sym, ◌∙◌}
use Rattle.std.proofs.lemmas.Bool.{true≢false, false_from_ne_true}
use Rattle.lt_isa.specs.Prelude.{State}
use Rattle.trace_patterns.specs.Prelude.{Known, is_secret, FitsClaim}
use Rattle.lt_checker.proofs.Related.{Related}

-- runs that are related by what is known are related by a claim that it fits
pub weaker : (k claimed : Known) (s t : State) → FitsClaim k claimed → Related k s t → Related claimed s t
weaker k claimed s t fit h = record {
  place = h.place;
  cycle = h.cycle;
  registers = λ r public.
      h.registers r (false_from_ne_true (is_secret k r) (λ secret. true≢false (sym (fit.registers r secret) ∙ public)));
  slots = λ j b known. h.slots j b (fit.slots j b known);
  ram = h.ram;
  register_count = h.register_count;
  first_slots = h.first_slots;
  second_slots = h.second_slots;
  bank_count = h.bank_count;
}
