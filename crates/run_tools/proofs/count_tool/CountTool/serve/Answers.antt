use Rattle.std.proofs.Common.{ap, ◌∙◌}
use Rattle.gr_outside.specs.Prelude.{ShelfSeen}
use Rattle.run_tools.proofs.FilesStay.{any_work, files-stay}
use Rattle.run_tools.proofs.count_tool.CountTool.serve.Goals as goal

pub returns-in_err-accepted : goal.returns-in_err-accepted
returns-in_err-accepted g c = files-stay _ _ _ _ (c.in_err-accepted.ensures.stopped (λ o. any_work)).stops

pub returns-in_err-inputs : goal.returns-in_err-inputs
returns-in_err-inputs g c =
    files-stay _ _ _ _ (c.in_err-inputs.ensures.stopped (λ inputs. any_work)).stops
    ∙ ap (λ (s : ShelfSeen). s.files) c.in_ok-accepted.ensures.calm
