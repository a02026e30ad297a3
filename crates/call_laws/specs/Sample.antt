-- The verb `sample N OUT [--fast] [--seed s]`.
use Rattle.std.specs.Prelude.{ℕ, Bool, List, Option, Some, None}
use Rattle.lt_isa.specs.Start.{wants_of}
use Rattle.call_replies.specs.declared.replies.Verdict.TheVariants.{Spent}
use Rattle.call_replies.specs.declared.replies.Done.TheVariants.{Sampled}
use Rattle.call_steps.specs.Histogram.{Made, sample_cycles, sample_inputs, figures_of}
use Rattle.call_steps.specs.Questions.{WhatIsMade, WhenItHalts}
use Rattle.call_steps.specs.Showing.{nothing_seen}
use Rattle.call_steps.specs.Work.{Work, Ends, Writes, Asks}

-- the object file is written where the run halted
abbrev pub on_sampled : ℕ → List ℕ → Made → Option ℕ → Work
on_sampled n output made (Some at) = Writes output made.bytes (Sampled (figures_of n made at))
on_sampled n output made None = Ends nothing_seen (Spent sample_cycles)

-- the object that was made is run
abbrev pub samples_on : ℕ → List ℕ → Made → Work
samples_on n output made =
    Asks (WhenItHalts made.object (sample_inputs (wants_of made.object)) sample_cycles) (on_sampled n output made)

abbrev pub sample_work : Bool → ℕ → List ℕ → Work
sample_work fast n output = Asks (WhatIsMade fast n) (samples_on n output)
