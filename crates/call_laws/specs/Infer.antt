-- The verb `infer OBJ OUT`.
use Rattle.std.specs.Prelude.{ℕ, List, length, Result, Ok, Err}
use Rattle.lt_isa.specs.Object.{Parts}
use Rattle.object_file.specs.Spelling.{spelling}
use Rattle.note_infer.specs.declared.faults.InferError.{InferError}
use Rattle.call_replies.specs.declared.replies.Verdict.TheVariants.{NoNotes}
use Rattle.call_replies.specs.declared.replies.Done.TheVariants.{Inferred}
use Rattle.call_steps.specs.Questions.{WhatIsInferred}
use Rattle.call_steps.specs.Showing.{nothing_seen}
use Rattle.call_steps.specs.Work.{Work, Ends, Writes, Asks}
use Rattle.call_steps.specs.Steps.{with_object}

-- the object with its least notes is written, where it gets them
abbrev pub on_inferred : List ℕ → Result Parts InferError → Work
on_inferred output (Ok found) = Writes output (spelling found) (Inferred (length found.notes))
on_inferred output (Err why) = Ends nothing_seen (NoNotes why)

abbrev pub infers_to : List ℕ → Parts → Work
infers_to output o = Asks (WhatIsInferred o) (on_inferred output)

abbrev pub infer_work : List ℕ → List ℕ → Work
infer_work object output = with_object object (infers_to output)
