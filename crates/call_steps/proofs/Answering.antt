-- From the text that a verb prints to its cause: the exits of a verb.
use Rattle.std.proofs.Common.{◌≡◌, ◌≢◌, ◌⊎◌, inl, inr, ℕ, List, Option, Some, None, Result, Ok, Err, IfOk, IfErr, IsErrAnd, sym, ap, ◌∙◌, subst}
use Rattle.std.specs.Prelude.{option_and_then}
use Rattle.std.specs.Option.{option_map}
use Rattle.gr_base.specs.Prelude.{Rose}
use Rattle.gr_outside.specs.Prelude.{ShelfSeen, SinkSeen, logged, with_file, write_of}
use Rattle.call_replies.specs.declared.replies.Verdict.{Verdict}
use Rattle.call_replies.specs.declared.replies.Reply.{Reply}
use Rattle.call_replies.specs.declared.replies.Done.{Done}
use Rattle.call_replies.specs.Prelude.{Said, no_memory, said}
use Rattle.call_steps.specs.Prelude.{Work, Ends, Writes, IsVerdict, IsWritten, Ended, Wrote, said_at, Outside, Stage, outside_at, PutsSaid, LeftBy, Judged, NotWritten, RefusedWrite, Starved, Written, Explains, NoWork, NoRoom, Worked, Seen, HasReached, Judges, WritesLast, LeavesToSay, NothingAsked, NoRoomYet, WorkStops}
use Rattle.call_steps.proofs.Progressing.{stopped, same-only}

-- ---- what is left to say

-- what a `?` passes on is left to say
pub passed-on : {T : Type 0} (result : Result T Reply) (reply : Reply) (before after : Stage) (asked : Option Work)
    → IsErrAnd result (λ r. r ≡ reply) → LeavesToSay before after asked (said reply)
    → IfErr result (λ r. LeavesToSay before after asked (said r))
passed-on (Ok x) reply before after asked is leaves = tt
passed-on (Err r) reply before after asked is leaves =
    subst (λ (q : Reply). LeavesToSay before after asked (said q)) (sym is) leaves

-- the text that a call left to be printed was printed, and explains the call
pub left-said : (shelf now : Stage) (before between after : SinkSeen) (status : ℕ) (asked : Option Work)
    (what : Said) → LeavesToSay shelf now asked what → between ≡ before
    → PutsSaid between after what status ⊎ PutsSaid between after no_memory status
    → Explains (outside_at shelf before) (outside_at now after) status asked
left-said shelf now before between after status asked what leaves unput put =
    go leaves (subst (λ (s : SinkSeen). PutsSaid s after what status ⊎ PutsSaid s after no_memory status) unput put)
  where
    go : LeavesToSay shelf now asked what → PutsSaid before after what status ⊎ PutsSaid before after no_memory status
        → Explains (outside_at shelf before) (outside_at now after) status asked
    go (NothingAsked none same is) put =
        subst (Explains (outside_at shelf before) (outside_at now after) status) (sym none) (elim put [
          | inl done ↦ NoWork same (subst (λ s. PutsSaid before after s status) is done)
          | inr done ↦ NoRoom None (same-only same) done
        ])
    go (NoRoomYet only is) put = elim put [
      | inl done ↦ NoRoom asked only (subst (λ s. PutsSaid before after s status) is done)
      | inr done ↦ NoRoom asked only done
    ]
    go (WorkStops work is stops) put =
        subst (Explains (outside_at shelf before) (outside_at now after) status) (sym is)
        (stopped shelf now before after status work what stops put)

-- ---- what was done

-- the lines of events and a verdict were printed
pub judged-said : (shelf now : Stage) (before after : SinkSeen) (status : ℕ) (work : Work) (seen : Seen)
    (verdict : Verdict) → HasReached shelf now work (Ends seen verdict)
    → PutsSaid before after (said_at (IsVerdict seen verdict)) status
    → Explains (outside_at shelf before) (outside_at now after) status (Some work)
judged-said shelf now before after status work seen verdict reached put =
    Worked work (IsVerdict seen verdict)
    (reached.leads now.seen.read_faults (IsVerdict seen verdict) (Ended seen verdict))
    (λ four five. reached.calls (Some (IsVerdict seen verdict)) now.log (Judges seen verdict now.log))
    (Judged seen verdict reached.calm put)

-- a file was to be written
pub written-said : (shelf between now : Stage) (before after : SinkSeen) (result : Result ℕ Reply) (work : Work)
    (name bytes slice : List ℕ) (done : Done) → HasReached shelf between work (Writes name bytes done) → slice ≡ bytes
    → IfOk result (λ status. LeftBy (outside_at between before) (outside_at now after) status
    (IsWritten name slice done))
    → IfOk result (λ status. status ≢ 4 → status ≢ 5 → now.log ≡ logged (write_of name (Some slice)) between.log)
    → IfOk result (λ status. Explains (outside_at shelf before) (outside_at now after) status (Some work))
written-said shelf between now before after (Err reply) work name bytes slice done reached is left noted = tt
written-said shelf between now before after (Ok status) work name bytes slice done reached is left noted =
    Worked work (IsWritten name bytes done)
    (reached.leads now.seen.read_faults (IsWritten name bytes done) (Wrote name bytes done))
    (λ four five. reached.calls (Some (IsWritten name bytes done)) now.log
    (WritesLast name bytes done between.log now.log
    (noted four five ∙ ap (λ (b : List ℕ). logged (write_of name (Some b)) between.log) is)))
    (left-so reached.calm (subst (λ b. LeftBy (outside_at between before) (outside_at now after) status
    (IsWritten name b done)) is left))
  where
    -- what is left doesn't depend on the log before
    left-so : between.seen ≡ shelf.seen
        → LeftBy (outside_at between before) (outside_at now after) status (IsWritten name bytes done)
        → LeftBy (outside_at shelf before) (outside_at now after) status (IsWritten name bytes done)
    left-so same (Written name' bytes' done' written put) =
        Written name bytes done
        (subst (λ (s : ShelfSeen). now.seen ≡ record s { files = option_map (with_file name bytes) s.files }) same written)
        put
    left-so same (NotWritten name' bytes' done' refused rose calm put) =
        NotWritten name bytes done (subst (λ (s : ShelfSeen). RefusedWrite name s now.seen) same refused)
        (subst (λ (s : ShelfSeen). Rose s.write_faults now.seen.write_faults) same rose)
        (subst (λ (s : ShelfSeen). now.seen.starved ≡ s.starved) same calm) put
    left-so same (Starved name' bytes' done' refused rose calm put) =
        Starved name bytes done (subst (λ (s : ShelfSeen). RefusedWrite name s now.seen) same refused)
        (subst (λ (s : ShelfSeen). Rose s.starved now.seen.starved) same rose)
        (subst (λ (s : ShelfSeen). now.seen.write_faults ≡ s.write_faults) same calm) put

-- ---- the words

-- found words ask for this work
pub asked-is : {X : Type 0} (f : X → Work) (found : Option X) (x : X) (asked : Option Work)
    → found ≡ Some x → option_map f found ≡ asked → asked ≡ Some (f x)
asked-is f found x asked is works = sym works ∙ ap (option_map f) is

-- the same of what was found, where that asks for work or for none
pub told-done : {X : Type 0} (f : X → Option Work) (found : Option X) (x : X) (asked : Option Work)
    (before after : Outside) (result : Result ℕ Reply) → found ≡ Some x → option_and_then f found ≡ asked
    → IfOk result (λ status. Explains before after status (f x))
    → IfOk result (λ status. Explains before after status asked)
told-done f found x asked before after result is asks done =
    subst (λ a. IfOk result (λ status. Explains before after status a)) (ap (option_and_then f) (sym is) ∙ asks) done

pub told-left : {X : Type 0} (f : X → Option Work) (found : Option X) (x : X) (asked : Option Work)
    (before after : Stage) (result : Result ℕ Reply) → found ≡ Some x → option_and_then f found ≡ asked
    → IfErr result (λ reply. LeavesToSay before after (f x) (said reply))
    → IfErr result (λ reply. LeavesToSay before after asked (said reply))
told-left f found x asked before after result is asks left =
    subst (λ a. IfErr result (λ reply. LeavesToSay before after a (said reply)))
    (ap (option_and_then f) (sym is) ∙ asks) left
