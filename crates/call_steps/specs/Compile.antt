-- The verb `compile SRC OUT [--fast] [--block-log w] [--window P:O:C] [--procs]`.
use Rattle.std.specs.Prelude.{ℕ, Bool, List, Result, Ok, Err}
use Rattle.src_tree.specs.Trees.{Source}
use Rattle.call_replies.specs.declared.source_faults.SourceFault.{SourceFault}
use Rattle.call_replies.specs.declared.replies.Verdict.TheVariants.{BadSource}
use Rattle.call_replies.specs.declared.replies.Done.TheVariants.{Compiled}
use Rattle.call_steps.specs.Questions.{WhichCompiled}
use Rattle.call_steps.specs.Showing.{nothing_seen}
use Rattle.call_steps.specs.Work.{Work, Ends, Writes, Asks}
use Rattle.call_steps.specs.Steps.{with_source}
use Rattle.command_words.specs.Windows.{windowed_profile}
use Rattle.command_words.specs.declared.windows.Window.{Window}
use Rattle.call_steps.specs.declared.targets.Target.{Target}

-- the object file is written, if there is room for the program's variables
abbrev pub on_compiled : List ℕ → Result (List ℕ) SourceFault → Work
on_compiled output (Ok bytes) = Writes output bytes Compiled
on_compiled output (Err fault) = Ends nothing_seen (BadSource fault)

abbrev pub compiles_to : List ℕ → Target → Source → Work
compiles_to output target p = Asks (WhichCompiled p target) (on_compiled output)

abbrev pub compile_work : List ℕ → List ℕ → Target → Bool → Work
compile_work source output target procs = with_source procs source (compiles_to output target)

-- the usual machine with blocks of 2^w words and a window
abbrev pub target_for : ℕ → Window → Bool → Target
target_for w window fast = record { profile = windowed_profile w window; fast = fast }

-- the work for a machine as options say, for speed and with procedures if the flags are given
abbrev pub compile_on : List ℕ → List ℕ → ℕ → Window → Bool → Bool → Work
compile_on source output block_log window fast procs =
    compile_work source output (target_for block_log window fast) procs
