use Rattle.std.proofs.Common.{ap, ◌∙◌}
use Rattle.gr_outside.specs.Prelude.{ShelfSeen}
use Rattle.run_tools.proofs.FilesStay.{any_work, files-stay}
use Rattle.run_tools.proofs.diff_tool.DiffTool.serve.Goals as goal

pub returns-in_err-accepted : goal.returns-in_err-accepted
returns-in_err-accepted g c = files-stay _ _ _ _ (c.in_err-accepted.ensures.stopped (λ o. any_work)).stops

pub returns-in_err-first : goal.returns-in_err-first
returns-in_err-first g c =
    files-stay _ _ _ _ (c.in_err-first.ensures.stopped (λ inputs. any_work)).stops
    ∙ ap (λ (s : ShelfSeen). s.files) c.in_ok-accepted.ensures.calm

pub returns-in_err-second : goal.returns-in_err-second
returns-in_err-second g c =
    files-stay _ _ _ _ (c.in_err-second.ensures.stopped (λ inputs. any_work)).stops
    ∙ ap (λ (s : ShelfSeen). s.files) (c.in_ok-first.ensures.calm ∙ c.in_ok-accepted.ensures.calm)
