-- The work of each verb, and the work that the words of a command line ask for. A new verb's work is added here.
use Rattle.std.specs.Prelude.{ℕ, List, Option}
use Rattle.command_words.specs.Verbs.{Works, asked_work}
use Rattle.call_steps.specs.Work.{Work}
use Rattle.call_laws.specs.Check.{check_work}
use Rattle.machine_verbs.specs.Trace.{trace_work}
use Rattle.machine_verbs.specs.Run.{run_work}
use Rattle.call_laws.specs.Assemble.{assemble_work}
use Rattle.call_laws.specs.Disassemble.{disassemble_work}
use Rattle.call_laws.specs.Evaluate.{evaluate_work}
use Rattle.call_steps.specs.Compile.{compile_on}
use Rattle.call_laws.specs.Sample.{sample_work}
use Rattle.machine_verbs.specs.Bus.{bus_work}
use Rattle.call_laws.specs.Infer.{infer_work}

abbrev pub works : Works Work
works = record {
  check = check_work;
  trace = trace_work;
  run = run_work;
  assemble = assemble_work;
  disassemble = disassemble_work;
  evaluate = evaluate_work;
  compile = compile_on;
  sample = sample_work;
  bus = bus_work;
  infer = infer_work;
}

-- the work that the words of the command line ask for, if they ask for any
abbrev pub work_of : List (List ℕ) → Option Work
work_of words = asked_work works words
