use Rattle.std.proofs.Common.{refl}
use Rattle.ghost_cli.proofs.CallsNamed.{calls-of}
use Rattle.ghost_cli.proofs.Flushed.{cut_explains, flushed_explains}
use Rattle.call_laws.proofs.HeadlineAll.{headlined}
use Rattle.call_laws.proofs.ReadBytes.{has-read-bytes}
use Rattle.ghost_cli.proofs.top.ghostrider.Goals as goal

pub returns-in-Ok : goal.returns-in-Ok
returns-in-Ok g c =
    let explained =
    flushed_explains c.flush.ensures.nothing_added c.in-Ok.ensures.calm c.explained-status.ensures.explained in
    record {
      promises = record { explained = explained };
      headline = headlined c.look_at.ensures explained;
      read_bytes = has-read-bytes c.look_at.ensures explained;
      happened = record {
        calls = calls-of c.look_at.ensures c.explained-status.ensures.calls;
        flushed = λ other. c.in-Ok.ensures.passed_on;
      };
    }

pub returns-in-Err : goal.returns-in-Err
returns-in-Err g c =
    let explained =
    cut_explains c.in-Err.ensures.untold c.flush.ensures.nothing_added c.in-Err.ensures.failed c.flush.ensures.count
    c.explained-status.ensures.explained in
    record {
      promises = record { explained = explained };
      headline = headlined c.look_at.ensures explained;
      read_bytes = has-read-bytes c.look_at.ensures explained;
      happened = record {
        calls = calls-of c.look_at.ensures c.explained-status.ensures.calls;
        flushed = λ other. absurd (other refl);
      };
    }
