-- The verb `trace OBJ INPUT [--cycles n] [--seed s] [--paths] [--recursive]`.
use Rattle.std.specs.Prelude.{ℕ, ℤ, Bool, true, false, List, Option, is_some}
use Rattle.lt_isa.specs.Object.{Parts}
use Rattle.lt_isa.specs.Start.{trace}
use Rattle.call_replies.specs.declared.replies.Verdict.TheVariants.{Traced}
use Rattle.call_steps.specs.Questions.{WhatIsShown, WhenItHalts}
use Rattle.call_steps.specs.Showing.{events_alone}
use Rattle.call_steps.specs.Work.{Work, Ends, Asks}
use Rattle.call_steps.specs.Steps.{with_accepted, with_inputs}

-- The lines of a run around its last line, without paths or with them. Only with them does it matter what the seed is,
-- and whether the banks are recursive.
abbrev pub shows_on : Bool → Bool → ℕ → ℕ → Parts → List (List ℤ) → Option ℕ → Work
shows_on false recursive cycles seed o inputs halt =
    Ends (events_alone (trace o inputs cycles)) (Traced (is_some halt))
shows_on true recursive cycles seed o inputs halt =
    Asks (WhatIsShown recursive o inputs cycles seed) (λ seen. Ends seen (Traced (is_some halt)))

-- the run of an object on inputs: its lines, and whether it halted
abbrev pub traces_on : Bool → Bool → ℕ → ℕ → Parts → List (List ℤ) → Work
traces_on paths recursive cycles seed o inputs =
    Asks (WhenItHalts o inputs cycles) (shows_on paths recursive cycles seed o inputs)

abbrev pub trace_work : List ℕ → List ℕ → ℕ → ℕ → Bool → Bool → Work
trace_work object input cycles seed paths recursive =
    with_accepted object (λ o. with_inputs o input (traces_on paths recursive cycles seed o))
