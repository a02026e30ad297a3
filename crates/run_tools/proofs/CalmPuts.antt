-- Unless the status is 4, the sink took the whole text.
use Rattle.std.proofs.Common.{◌≡◌, ◌≢◌, ◌⊎◌, ℕ, ⊎_elim}
use Rattle.gr_outside.specs.Prelude.{SinkSeen}
use Rattle.call_steps.specs.Prelude.{PutsSaid}
use Rattle.call_replies.specs.Prelude.{Said, no_memory}

pub put-calm : (before after : SinkSeen) (said : Said) (status : ℕ) → PutsSaid before after said status
    → status ≢ 4 → after.faults ≡ before.faults
put-calm before after said status put other =
    ⊎_elim (λ done. done.2) (λ failed. absurd (other failed.0)) put

pub said-calm : (before after : SinkSeen) (said : Said) (status : ℕ)
    → PutsSaid before after said status ⊎ PutsSaid before after no_memory status
    → status ≢ 4 → after.faults ≡ before.faults
said-calm before after said status put other =
    ⊎_elim (λ done. put-calm before after said status done other)
    (λ done. put-calm before after no_memory status done other) put
