-- What the next events of two traces are to each other. (Only private clauses and proofs say so.)
use Rattle.std.specs.Prelude.{◌≡◌, ◌≢◌, Option, Some, None}
use Rattle.std.specs.Option.{option_map}
use Rattle.run_tools.specs.Recorded.{stamped_of}
use Rattle.run_tools.specs.declared.recorder.Recorded.{Recorded}
use Rattle.run_tools.specs.declared.comparing.Judgement.{Judgement}
use Rattle.run_tools.specs.declared.comparing.Judgement.TheVariants.{Over, Same, Other}

abbrev pub Judges : Option Recorded → Option Recorded → Judgement → Type 0
Judges first second Over = (first ≡ None) × (second ≡ None)
Judges first second (Same event) =
    (option_map stamped_of first ≡ Some (stamped_of event)) × (option_map stamped_of second ≡ Some (stamped_of event))
Judges first second (Other one other) =
    (one ≡ first) × (other ≡ second) × (option_map stamped_of first ≢ option_map stamped_of second)
