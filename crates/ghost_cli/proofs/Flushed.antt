-- A call whose sink can't pass on its buffered bytes ends with 4, for the same reason as before.
use Rattle.std.proofs.Common.{◌≡◌, ℕ, ◌≤◌, inr, List, Option, Some, None, refl, sym, subst, ⊎_elim}
use Rattle.gr_base.specs.Prelude.{AddsLess, Rose}
use Rattle.gr_base.proofs.Counts.{rose_before}
use Rattle.gr_outside.specs.Prelude.{SinkSeen}
use Rattle.call_steps.specs.Prelude.{Outside, Stage, outside_at, PutsSaid, LeftBy, Unread, Long, Judged, Written, NotWritten, Starved, Explains, NoWork, NoRoom, Worked, Ending, IsVerdict, Work, said_at}
use Rattle.call_replies.specs.Prelude.{Said, usage, unread, unwritten, no_memory, too_long, wrote}

-- nothing is stated about a sink that reveals no bytes
untold : (before now : Option (List ℕ)) (text : List ℕ) → now ≡ None → AddsLess before now text
untold (Some held) None text none = tt
untold None None text none = tt
untold before (Some held) text none = absurd (let f : ◌≡◌ {A = Option (List ℕ)} (Some held) None = none in cc)

-- After a call, the sink's count rose and it reveals no bytes.
module _ {mid now : SinkSeen} (none : mid.held ≡ None) (same : now.held ≡ mid.held)
    (rose : Rose mid.faults now.faults) (count : mid.faults ≤ now.faults) where
  cut_put : (before : SinkSeen) (said : Said) (status : ℕ) → PutsSaid before mid said status
      → PutsSaid before now said 4
  cut_put before said status put =
      inr (
        refl,
        ⊎_elim (λ done. subst (λ n. Rose n now.faults) done.2 rose)
            (λ failed. rose_before before.faults mid.faults now.faults failed.1 count rose.2) put,
        untold before.held now.held said.text (subst (λ held. held ≡ None) (sym same) none),
      )

  cut_left : {before : Outside} {shelf : Stage} {status : ℕ} {ending : Ending}
      → LeftBy before (outside_at shelf mid) status ending → LeftBy before (outside_at shelf now) 4 ending
  cut_left {before} {shelf} {status} (Unread name left put) =
      Unread name left (cut_put before.sink (unread name) status put)
  cut_left {before} {shelf} {status} (Long name limit stays put) =
      Long name limit stays (cut_put before.sink (too_long name limit) status put)
  cut_left {before} {shelf} {status} (Judged seen verdict stays put) =
      Judged seen verdict stays (cut_put before.sink (said_at (IsVerdict seen verdict)) status put)
  cut_left {before} {shelf} {status} (Written name bytes done written put) =
      Written name bytes done written (cut_put before.sink (wrote done) status put)
  cut_left {before} {shelf} {status} (NotWritten name bytes done refused failed starved put) =
      NotWritten name bytes done refused failed starved (cut_put before.sink (unwritten name) status put)
  cut_left {before} {shelf} {status} (Starved name bytes done refused starved failed put) =
      Starved name bytes done refused starved failed (cut_put before.sink no_memory status put)

  -- the call is explained as before, with the status 4
  pub cut_explains : {before : Outside} {shelf : Stage} {status : ℕ} {asked : Option Work}
      → Explains before (outside_at shelf mid) status asked → Explains before (outside_at shelf now) 4 asked
  cut_explains {before} {shelf} {status} (NoWork stays put) = NoWork stays (cut_put before.sink usage status put)
  cut_explains {before} {shelf} {status} (NoRoom asked only put) =
      NoRoom asked only (cut_put before.sink no_memory status put)
  cut_explains (Worked work ending ends calls left) =
      Worked work ending ends (λ other. absurd (other refl)) (cut_left left)

-- a sink that handed on all is seen as before
pub flushed_explains : {before : Outside} {shelf : Stage} {mid now : SinkSeen} {status : ℕ} {asked : Option Work}
    → now.held ≡ mid.held → now.faults ≡ mid.faults
    → Explains before (outside_at shelf mid) status asked → Explains before (outside_at shelf now) status asked
flushed_explains {before} {shelf} {mid} {now} {status} {asked} held faults explained =
    subst (λ h. Explains before (outside_at shelf (record { held = h; faults = now.faults })) status asked) (sym held)
    (subst (λ n. Explains before (outside_at shelf (record { held = mid.held; faults = n })) status asked) (sym faults)
    explained)
