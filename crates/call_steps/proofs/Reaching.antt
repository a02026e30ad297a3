-- How far the steps of a verb's work come: a file that is read, a question with its right result, steps in sequence.
use Rattle.std.proofs.Common.{◌≡◌, inl, inr, ℕ, ◌≤◌, List, length, Some, None, Result, Ok, Err, IfErr, IsErrAnd, refl, sym, ap₂, ◌∙◌, subst}
use Rattle.gr_outside.specs.Prelude.{ShelfSeen, logged, read_of}
use Rattle.call_replies.specs.declared.replies.Done.{Done}
use Rattle.call_replies.specs.declared.replies.Reply.{Reply}
use Rattle.call_replies.specs.declared.replies.Reply.TheVariants.{NoMemory}
use Rattle.call_replies.specs.declared.replies.Verdict.{Verdict}
use Rattle.call_replies.specs.Prelude.{Said, comes_to, no_memory, said}
use Rattle.call_steps.specs.Prelude.{StopsHere, AsksOn, Judges, ReadsOn, HasCalls, EndsWorkWith, Ended, Gives, HasLeft, IsVerdict, LeavesShelf, MayEnd, NoRoomLeft, OnlyReads, Stops, StopsAt, Answer, IsRight, Question, Finds, HasReached, HasStopped, Stage, nothing_seen, Asks, Ends, Reads, Work, Writes}
use Rattle.call_steps.proofs.Progressing.{leads-later, leads-on, same-only}

-- ---- steps

-- no step yet
pub not-begun : {before : Stage} {work : Work} → HasReached before before work work
not-begun = record { leads = λ now ending comes. comes; calm = refl; calls = λ ending last rest. rest }

-- the right result of a question
pub with-answer : {before after : Stage} {work : Work} (question : Question) (next : Answer question → Work)
    (answer : Answer question) → HasReached before after work (Asks question next) → IsRight question answer
    → HasReached before after work (next answer)
with-answer {before} {after} {work} question next answer reached right = record {
  leads = leads-on before.seen work question next answer reached.leads right;
  calm = reached.calm;
  calls = λ ending last rest.
      reached.calls ending last (AsksOn question next answer ending after.log last right rest);
}

-- steps in sequence
pub then-reached : {before between after : Stage} {work rest last : Work} → HasReached before between work rest
    → HasReached between after rest last → HasReached before after work last
then-reached {before} {between} {after} {work} {rest} {last} first second = record {
  leads = leads-later before.seen between.seen work rest last first.calm first.leads second.leads;
  calm = second.calm ∙ first.calm;
  calls = λ ending end done. first.calls ending end (second.calls ending end done);
}

-- these are the bytes that are left to write, and what is printed then
pub to-write : {before after : Stage} {work : Work} {name bytes slice : List ℕ} {done told : Done}
    → HasReached before after work (Writes name bytes done) → slice ≡ bytes → told ≡ done
    → HasReached before after work (Writes name slice told)
to-write {before} {after} {work} {name} {bytes} {slice} {done} {told} reached is same =
    subst (HasReached before after work) (sym (ap₂ (Writes name) is same)) reached

-- ---- stops

-- what stops has calls that follow the work
has-stopped : {before after : Stage} {work : Work} {what : Said} → Stops before after work what
    → HasStopped before after work what
has-stopped {before} {after} {work} {what} stops = record { stops = stops; calls = go stops }
  where
    go : Stops before after work what → HasCalls work before.log after.log
    go (NoRoomLeft only is calls) = (None, calls)
    go (StopsAt ending comes calls left is) = (Some ending, calls)

-- a step after others stopped
pub then-stopped : {before between after : Stage} {work rest : Work} {what : Said} → HasReached before between work rest
    → HasStopped between after rest what → HasStopped before after work what
then-stopped {before} {between} {after} {work} {rest} {what} first stopped = has-stopped (go stopped.stops)
  where
    go : Stops between after rest what → Stops before after work what
    go (NoRoomLeft only is calls) =
        NoRoomLeft (subst (λ b. OnlyReads b after.seen) first.calm only) is (first.calls None after.log calls)
    go (StopsAt ending comes calls left is) =
        StopsAt ending
        (first.leads after.seen.read_faults ending
        (subst (λ (b : ShelfSeen). MayEnd (Gives b.files b.read_faults after.seen.read_faults) rest ending) first.calm
        comes))
        (first.calls (Some ending) after.log calls)
        (subst (λ (b : ShelfSeen). LeavesShelf ending b after.seen) first.calm left) is

-- memory ran out
pub out-of-memory : {before after : Stage} {work rest : Work} {what : Said} → HasReached before after work rest
    → what ≡ no_memory → HasStopped before after work what
out-of-memory {before} {after} {work} {rest} reached is =
    has-stopped (NoRoomLeft (same-only reached.calm) is (reached.calls None after.log (StopsHere rest after.log)))

-- the work ended with a verdict
pub with-verdict : {before after : Stage} {work : Work} (verdict : Verdict)
    → HasReached before after work (Ends nothing_seen verdict) → HasStopped before after work (comes_to verdict)
with-verdict {before} {after} {work} verdict reached =
    has-stopped (StopsAt (IsVerdict nothing_seen verdict)
    (reached.leads after.seen.read_faults (IsVerdict nothing_seen verdict) (Ended nothing_seen verdict))
    (reached.calls (Some (IsVerdict nothing_seen verdict)) after.log (Judges nothing_seen verdict after.log))
    reached.calm refl)

-- a question's result ended it
pub with-refusal : {before after : Stage} {work : Work} {what : Said} (question : Question)
    (next : Answer question → Work) → HasReached before after work (Asks question next)
    → EndsWorkWith question next what → HasStopped before after work what
with-refusal {before} {after} {work} {what} question next reached refuses = elim refuses [
  | inl no_room ↦ out-of-memory reached no_room
  | inr why ↦
      subst (HasStopped before after work) (sym why.4)
      (with-verdict why.1
      (subst (HasReached before after work) why.3 (with-answer question next why.0 reached why.2)))
]

-- what a `?` passes on: a reply, and running out of memory
pub passed : {T : Type 0} {before after : Stage} {work : Work} (result : Result T Reply) (reply : Reply)
    → IsErrAnd result (λ r. r ≡ reply) → HasStopped before after work (said reply)
    → IfErr result (λ r. HasStopped before after work (said r))
passed (Ok x) reply is stopped = tt
passed {before = before} {after = after} {work = work} (Err r) reply is stopped =
    subst (λ (q : Reply). HasStopped before after work (said q)) (sym is) stopped

pub passed-memory : {T : Type 0} {before after : Stage} {work rest : Work} (result : Result T Reply)
    → IsErrAnd result (λ r. r ≡ NoMemory) → HasReached before after work rest
    → IfErr result (λ r. HasStopped before after work (said r))
passed-memory result is reached = passed result NoMemory is (out-of-memory reached refl)

-- ---- files

-- a file that couldn't be read, or whose contents ended the work
pub unread-stopped : {before after : Stage} {name : List ℕ} {limit : ℕ} {next : List ℕ → Work} {what : Said}
    → Stops before after (Reads name limit next) what → HasStopped before after (Reads name limit next) what
unread-stopped stops = has-stopped stops

-- the bytes of a file
pub bytes-read : {before after : Stage} {name : List ℕ} {limit : ℕ} {bytes : List ℕ}
    → ((next : List ℕ → Work) → HasLeft before.seen (Reads name limit next) (next bytes)) → after.seen ≡ before.seen
    → after.log ≡ logged (read_of name (Some bytes)) before.log → length bytes ≤ limit
    → Finds before after (Reads name limit) bytes
bytes-read {before} {after} {name} {limit} {bytes} leads calm noted short next = record {
  leads = leads next;
  calm = calm;
  calls = λ ending last rest. ReadsOn name limit next bytes ending before.log after.log last noted short rest;
}
