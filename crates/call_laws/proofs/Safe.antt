-- Whatever object is checked for work that is done is oblivious, that of each core of a bus too.
use Rattle.std.proofs.Common.{◌≡◌, ◌≢◌, inl, inr, ℕ, ◌+◌, ◌<◌, List, [], ◌∷◌, Contains, Option, Some, None, subst, arith}
use Rattle.gr_outside.specs.Prelude.{Files}
use Rattle.lt_isa.specs.Prelude.{Parts, wants_of}
use Rattle.call_replies.specs.Prelude.{Said}
use Rattle.call_steps.specs.Prelude.{Work, Ending, MayEnd, Holds, said_at, with_accepted, with_inputs, Outside, Explains}
use Rattle.bus_arbiter.specs.Prelude.{refusal, share_of}
use Rattle.bus_arbiter.proofs.TransferLists.{in-cases, in-none}
use Rattle.command_words.specs.Prelude.{Pair}
use Rattle.machine_verbs.specs.Prelude.{Read, bus_work, none_read, on_plan, one_read, shares_bus, with_cores}
use Rattle.call_laws.specs.Prelude.{Answers, NoAnswer, AnswersSo, CallLaws, IsDone, IsSafe, PromisesFollow}
use Rattle.call_laws.proofs.DoneWork.{checked-on, given-on, planned-on}
use Rattle.call_laws.proofs.CompiledFiles.{compiled-of}
use Rattle.call_laws.proofs.Inferring.{inferred-of}
use Rattle.call_laws.proofs.Lines.{line-of}
use Rattle.call_laws.proofs.SampleFiles.{sampled-of, sample-of}
use Rattle.call_laws.proofs.Promised.{answers-of, usage-of, no-work, unread-of, failed-of, no-room-of, calm-of, reads-calm, starved-calm, others-of, last-of, tells-of, stands-of, complete-of}

-- the object of each pair of a bus is safe
cores-safe : (files : Files) (ending : Ending) → IsDone (said_at ending).status → (pairs : List Pair) (k : ℕ)
    (read : Read) (next : Read → Work) → MayEnd (Holds files) (with_cores pairs k read next) ending
    → (p : Pair) → Contains pairs p → IsSafe files p.object
cores-safe files ending done [] k read next comes p among = absurd (in-none p among)
cores-safe files ending done (pair ∷ pairs) k read next comes p among =
    let rest : Read → Work = λ more. with_cores pairs (k + 1) more next in
    let checked =
    checked-on files ending done pair.object (λ o. on_plan k (refusal read.plan (share_of o))
    (with_inputs o pair.input (λ d. rest (one_read read o d)))) comes in
    let o = checked.safe.o in
    let given =
    given-on files ending done (wants_of o) pair.input (λ d. rest (one_read read o d))
    (planned-on files ending done k (refusal read.plan (share_of o))
    (with_inputs o pair.input (λ d. rest (one_read read o d))) checked.comes).1 in
    elim (in-cases pair pairs p among) [
      | inl is ↦ subst (λ (q : Pair). IsSafe files q.object) is checked.safe
      | inr later ↦
          cores-safe files ending done pairs (k + 1) (one_read read o given.inputs) next given.comes p later
    ]

answer-safe : (files : Files) (object : List ℕ) (next : Parts → Work) (asked : Option Work) (said : Said)
    (afterwards : Files) → asked ≡ Some (with_accepted object next) → Answers files asked said afterwards
    → IsDone said.status → IsSafe files object
answer-safe files object next asked said afterwards is NoAnswer done =
    absurd (let f : ◌≡◌ {A = Option Work} None (Some (with_accepted object next)) = is in cc)
answer-safe files object next asked said afterwards is (AnswersSo work ending comes) done =
    let same : work ≡ with_accepted object next = some-same is in
    (checked-on files ending done object next (subst (λ w. MayEnd (Holds files) w ending) same comes)).safe
  where
    some-same : {work other : Work} → Some work ≡ Some other → work ≡ other
    some-same e = let f = e in cc

answer-bus : (files : Files) (pairs : List Pair) (cycles : ℕ) (asked : Option Work) (said : Said) (afterwards : Files)
    → asked ≡ Some (bus_work pairs cycles) → Answers files asked said afterwards → IsDone said.status
    → (p : Pair) → Contains pairs p → IsSafe files p.object
answer-bus files pairs cycles asked said afterwards is NoAnswer done p among =
    absurd (let f : ◌≡◌ {A = Option Work} None (Some (bus_work pairs cycles)) = is in cc)
answer-bus files pairs cycles asked said afterwards is (AnswersSo work ending comes) done p among =
    let same : work ≡ bus_work pairs cycles = some-same is in
    cores-safe files ending done pairs 0 none_read (shares_bus cycles)
    (subst (λ w. MayEnd (Holds files) w ending) same comes) p among
  where
    some-same : {work other : Work} → Some work ≡ Some other → work ≡ other
    some-same e = let f = e in cc

pub oblivious-of : {asked : Option Work} {before after : Outside} {status : ℕ} → Explains before after status asked
    → (object : List ℕ) (next : Parts → Work) → asked ≡ Some (with_accepted object next) → IsDone status
    → (files : Files) → before.shelf.files ≡ Some files → IsSafe files object
oblivious-of {asked = asked} {status = status} explained object next is done files told = elim (answers-of explained
    files told (done-other 4 (omega arith) (omega arith)) (done-other 5 (omega arith) (omega arith))) [
      | inl answer ↦ answer-safe files object next asked answer.said answer.afterwards is answer.answer
          (subst IsDone answer.is done)
      | inr unreadable ↦ absurd (done-other 3 (omega arith) (omega arith) unreadable.is)
    ]
  where
    done-other : (k : ℕ) → 0 < k → k < 10 → status ≢ k
    done-other k low high is' = elim done [ inl e ↦ omega (arith, is', e, low) | inr e ↦ omega (arith, is', e, high) ]

pub bus-of : {asked : Option Work} {before after : Outside} {status : ℕ} → Explains before after status asked
    → (pairs : List Pair) (cycles : ℕ) → asked ≡ Some (bus_work pairs cycles) → IsDone status
    → (files : Files) → before.shelf.files ≡ Some files → (p : Pair) → Contains pairs p → IsSafe files p.object
bus-of {asked = asked} {status = status} explained pairs cycles is done files told p among = elim (answers-of explained
    files told (done-other 4 (omega arith) (omega arith)) (done-other 5 (omega arith) (omega arith))) [
      | inl answer ↦ answer-bus files pairs cycles asked answer.said answer.afterwards is answer.answer
          (subst IsDone answer.is done) p among
      | inr unreadable ↦ absurd (done-other 3 (omega arith) (omega arith) unreadable.is)
    ]
  where
    done-other : (k : ℕ) → 0 < k → k < 10 → status ≢ k
    done-other k low high is' = elim done [ inl e ↦ omega (arith, is', e, low) | inr e ↦ omega (arith, is', e, high) ]

-- ---- all of it

-- what follows if it is explained how a call ended
follows : {asked : Option Work} {before after : Outside} {status : ℕ}
    → Explains before after status asked → CallLaws asked before after status
follows explained = record {
  answers = answers-of explained;
  usage = usage-of explained;
  no_work = no-work explained;
  unread = unread-of explained;
  failed = failed-of explained;
  line = line-of explained;
  no_room = no-room-of explained;
  calm = calm-of explained;
  reads = reads-calm explained;
  starved = starved-calm explained;
  others = others-of explained;
  last = last-of explained;
  tells = tells-of explained;
  stands = stands-of explained;
  complete = complete-of explained;
  oblivious = oblivious-of explained;
  bus = bus-of explained;
  compiled = compiled-of explained;
  inferred = inferred-of explained;
  sampled = sampled-of explained;
  sample = sample-of explained;
}

pub promises-follow : PromisesFollow
promises-follow asked before after status promises = follows promises.explained
