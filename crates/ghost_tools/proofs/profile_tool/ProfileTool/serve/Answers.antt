use Rattle.std.proofs.Common.{◌∙◌}
use Rattle.run_tools.proofs.FilesStay.{any_work, files-stay}
use Rattle.ghost_tools.proofs.profile_tool.ProfileTool.serve.Goals as goal

pub returns-in_err-inputs : goal.returns-in_err-inputs
returns-in_err-inputs g c =
    files-stay _ _ _ _ (c.in_err-inputs.ensures.stopped (λ inputs. any_work)).stops ∙ c.in_ok-source.ensures.files
