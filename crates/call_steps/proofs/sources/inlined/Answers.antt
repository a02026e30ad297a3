use Rattle.std.proofs.Common.{ap, ◌∙◌}
use Rattle.procs_tree.specs.Prelude.{file_of}
use Rattle.call_steps.specs.Prelude.{text_fault}
use Rattle.call_steps.proofs.FirstSourceFaults.{file-first, call-first}
use Rattle.call_steps.proofs.sources.inlined.Goals as goal

pub returns-in-Ok-inline_owned-clause-found : goal.returns-in-Ok-inline_owned-clause-found
returns-in-Ok-inline_owned-clause-found c = record {
  tokens = c.in-Ok.ensures.spelled.tokens;
  split = c.in-Ok.ensures.spelled.split;
  of_file = record {
    file = file_of c.in-Ok.file;
    spelled = c.in-Ok.ensures.spelled.is;
    faultless = c.in-Ok-inline_owned.ensures.faultless;
    made = c.in-Ok-inline_owned.ensures.inlined;
    means = c.in-Ok-inline_owned.ensures.meaning;
  };
}

pub returns-in-Err-clause-refused : goal.returns-in-Err-clause-refused
returns-in-Err-clause-refused c =
    call-first c.args.text.now (file_of c.in-Ok.file) c.in-Err.fault c.shown_call_fault.result
    c.shown_call_fault.ensures c.in-Ok.ensures.spelled c.in-Err.ensures.refused

pub returns-in-Err-Fault-clause-refused : goal.returns-in-Err-Fault-clause-refused
returns-in-Err-Fault-clause-refused c =
    file-first c.args.text.now c.in-Err-Fault.fault c.text_fault.result
    (c.text_fault.ensures ∙ ap text_fault c.in-Err-Fault.fault-is)
    (rw c.in-Err-Fault.field-0-is at c.in-Err-Fault.ensures.refused)
