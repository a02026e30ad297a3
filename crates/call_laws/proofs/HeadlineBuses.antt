-- What the headline says of `bus`.
use Rattle.std.proofs.Common.{◌≡◌, ℕ, ◌+◌, ◌≤◌, ℤ, Bool, true, false, cond, ltb, List, [], ◌∷◌, ◌++◌, codes, length, Option, Some, None, refl, sym, ap, ◌∙◌, subst, arith, append_assoc, length-append}
use Rattle.std.specs.Option.{option_map}
use Rattle.std.proofs.lemmas.Bool.{ltb-false}
use Rattle.std.proofs.lemmas.List.{append-nil}
use Rattle.std.proofs.lemmas.Option.{same_Some}
use Rattle.gr_outside.specs.Prelude.{Files}
use Rattle.lt_isa.specs.Prelude.{Parts, IsOblivious, FitsObject, wants_of}
use Rattle.lt_isa.proofs.Variables.{wants_are_variables}
use Rattle.run_data.proofs.ReadWords.{inputs_fit}
use Rattle.bus_arbiter.specs.Prelude.{AllOblivious, refusal, IsPlan, share_of, Transfer}
use Rattle.bus_arbiter.proofs.JoinedLaws.{agreeing}
use Rattle.bus_arbiter.proofs.PlannedRuns.{none-overlaps, plan-none, plan-takes}
use Rattle.call_replies.specs.declared.replies.Verdict.TheVariants.{Shared}
use Rattle.command_words.specs.Prelude.{Pair, in_pairs, pairs_of, Part, StandTogether, Text, Call}
use Rattle.call_laws.specs.Prelude.{works, AllHeld, HoldsInputs, HoldsObject, Shares, done_status, IsDone}
use Rattle.machine_verbs.specs.Prelude.{Read, all_halted, bus_work, none_read, on_plan, one_read, shares_bus, with_cores, AreRead}
use Rattle.call_steps.specs.Prelude.{bus_seen, core_lines, transfer_lines, with_inputs, Ending, Holds, IsVerdict, MayEnd, Work, said_at}
use Rattle.call_replies.specs.Prelude.{verdict_status}
use Rattle.command_words.specs.declared.verbs.Verb.TheVariants.{Bus}
use Rattle.call_laws.proofs.BusAgreeing.{joining}
use Rattle.command_words.proofs.BusWords.{bus-given}
use Rattle.call_laws.proofs.DoneWork.{checked-on, given-on, planned-on}
use Rattle.call_laws.proofs.HeadlineCalls.{Called, asked, done-ending, ended-by}
use Rattle.call_laws.proofs.HeadlineVerbs.{safe-object}
use Rattle.machine_verbs.proofs.Pairing.{none-read, one-read}

-- ---- what was read

record HeldSoFar (files : Files) (pairs : List Pair) (read : Read) : Type 0 where
  held : AllHeld files pairs read.objects read.inputs
  oblivious : AllOblivious read.objects
  are : AreRead read
  plan : IsPlan read.plan
  count : length read.plan ≡ length pairs

held-more : (files : Files) (pairs : List Pair) (os : List Parts) (ds : List (List (List ℤ))) (pair : Pair) (o : Parts)
    (d : List (List ℤ)) → AllHeld files pairs os ds → HoldsObject files pair.object o
    → HoldsInputs files pair.input (wants_of o) d → AllHeld files (pairs ++ pair ∷ []) (os ++ o ∷ []) (ds ++ d ∷ [])
held-more files [] [] [] pair o d all object input = (object, input, tt)
held-more files [] [] (e ∷ ds) pair o d all object input = absurd all
held-more files [] (p ∷ os) ds pair o d all object input = absurd all
held-more files (q ∷ pairs) [] ds pair o d all object input = absurd all
held-more files (q ∷ pairs) (p ∷ os) [] pair o d all object input = absurd all
held-more files (q ∷ pairs) (p ∷ os) (e ∷ ds) pair o d all object input =
    (all.0, all.1, held-more files pairs os ds pair o d all.2 object input)

oblivious-more : (os : List Parts) (o : Parts) → AllOblivious os → IsOblivious o → AllOblivious (os ++ o ∷ [])
oblivious-more [] o all is = (is, tt)
oblivious-more (p ∷ os) o all is = (all.0, oblivious-more os o all.1 is)

record AllRead (files : Files) (pairs : List Pair) (next : Read → Work) (ending : Ending) : Type 0 where
  read : Read
  so : HeldSoFar files pairs read
  comes : MayEnd (Holds files) (next read) ending

module _ (files : Files) (ending : Ending) (done : IsDone (said_at ending).status) where
  all-read : (before pairs : List Pair) (k : ℕ) (read : Read) (next : Read → Work) → HeldSoFar files before read
      → length before + length pairs ≤ 8 → MayEnd (Holds files) (with_cores pairs k read next) ending
      → AllRead files (before ++ pairs) next ending
  all-read before [] k read next so room comes =
      subst (λ (ps : List Pair). AllRead files ps next ending) (sym (append-nil before))
      (record { read = read; so = so; comes = comes })
  all-read before (pair ∷ pairs) k read next so room comes =
      let rest : Read → Work = λ more. with_cores pairs (k + 1) more next in
      let checked = checked-on files ending done pair.object (λ o. on_plan k (refusal read.plan (share_of o))
      (with_inputs o pair.input (λ d. rest (one_read read o d)))) comes in
      let o = checked.safe.o in
      let range = checked.safe.spells.in_range in
      let taken = planned-on files ending done k (refusal read.plan (share_of o))
      (with_inputs o pair.input (λ d. rest (one_read read o d))) checked.comes in
      let held = given-on files ending done (wants_of o) pair.input (λ d. rest (one_read read o d)) taken.1 in
      let d = held.inputs in
      let fits : FitsObject o d =
      inputs_fit (wants_of o) held.given.json d (wants_are_variables o range) held.given.given in
      subst (λ (ps : List Pair). AllRead files ps next ending) (append_assoc before (pair ∷ []) pairs)
      (all-read (before ++ pair ∷ []) pairs (k + 1) (one_read read o d) next
      (record {
        held = held-more files before read.objects read.inputs pair o d so.held
            (safe-object files pair.object checked.safe) held.given;
        oblivious = oblivious-more read.objects o so.oblivious checked.safe.oblivious;
        are = one-read read o d so.are range fits;
        plan = plan-takes read.plan o so.plan (omega (arith, so.count, room)) range taken.0;
        count = omega (arith, so.count, length-append read.plan (share_of o ∷ []), length-append before (pair ∷ []));
      })
      (omega (arith, room, length-append before (pair ∷ []))) held.comes)

-- pairs have two names each
pairs-double : (names : List Text) (pairs : List Pair) → in_pairs names ≡ Some pairs
    → length names ≡ length pairs + length pairs
pairs-double [] pairs is =
    subst (λ (ps : List Pair). 0 ≡ length ps + length ps) (same_Some [] pairs is) (omega arith)
pairs-double (o ∷ []) pairs is = absurd (let f : ◌≡◌ {A = Option (List Pair)} None (Some pairs) = is in cc)
pairs-double (o ∷ i ∷ more) pairs is = by (pairs-double more) (in_pairs more) refl is
  where
    by : ((ps : List Pair) → in_pairs more ≡ Some ps → length more ≡ length ps + length ps)
        → (found : Option (List Pair)) → in_pairs more ≡ found
        → option_map (λ ps. record { object = o; input = i } ∷ ps) found ≡ Some pairs
        → length (o ∷ i ∷ more) ≡ length pairs + length pairs
    by double None e is = absurd (let f : ◌≡◌ {A = Option (List Pair)} None (Some pairs) = is in cc)
    by double (Some ps) e is =
        let half = double ps e in
        subst (λ (qs : List Pair). length (o ∷ i ∷ more) ≡ length qs + length qs)
        (same_Some (record { object = o; input = i } ∷ ps) pairs is) (omega (arith, half))

-- one to eight pairs
pairs-few : (names : List Text) (pairs : List Pair) → pairs_of names ≡ Some pairs → length pairs ≤ 8
pairs-few names pairs is = by (ltb 16 (length names)) refl is
  where
    by : (b : Bool) → ltb 16 (length names) ≡ b → cond b None (in_pairs names) ≡ Some pairs → length pairs ≤ 8
    by true e is = absurd (let f : ◌≡◌ {A = Option (List Pair)} None (Some pairs) = is in cc)
    by false e is = omega (arith, ltb-false 16 (length names) e, pairs-double names pairs is)

-- ---- the printed text

shared-text : (joined : List Transfer) (halts : List (Option ℕ))
    → (said_at (IsVerdict (bus_seen joined halts) (Shared (all_halted halts)))).text
    ≡ transfer_lines joined ++ core_lines 0 halts
shared-text joined halts = ap (λ (l : List ℕ). transfer_lines joined ++ l) (append-nil (core_lines 0 halts))

shared-status : (all : Bool) → verdict_status (Shared all) ≡ done_status all
shared-status true = refl
shared-status false = refl

module _ (words : List Text) (files afterwards : Files) (put : List ℕ) (status : ℕ)
    (called : Called words files afterwards put status) where
  pub shared : (names : List Text) (parts : List Part) (first : Pair) (pairs : List Pair)
      → Call words Bus names parts → StandTogether names parts
      → pairs_of names ≡ Some (first ∷ pairs) → IsDone status → Shares files (first ∷ pairs) parts put status
  shared names parts first pairs call together pairs-are done =
      let work = asked words files afterwards put status called done (codes "bus") call.more call.are in
      let given = bus-given works call.more names parts first pairs work.0 call.says together pairs-are work.1 in
      let cycles = given.0 in
      let end = ended-by words files afterwards put status called done (codes "bus") call.more call.are work.0
      (bus_work (first ∷ pairs) cycles) work.1 given.4 in
      let all = all-read files end.ending (done-ending words files afterwards put status called done _ end) []
      (first ∷ pairs) 0 none_read (shares_bus cycles)
      (record { held = tt; oblivious = tt; are = none-read; plan = plan-none; count = refl })
      (omega (arith, pairs-few names (first ∷ pairs) pairs-are)) end.comes in
      let os = all.read.objects in
      let ds = all.read.inputs in
      let joint = joining (Holds files) cycles os ds end.ending all.comes in
      record {
        objects = os;
        inputs = ds;
        held = all.so.held;
        oblivious = all.so.oblivious;
        cycles = cycles;
        within = given.2;
        joined = joint.joined;
        halts = joint.halts;
        is = end.text ∙ ap (λ e. (said_at e).text) joint.is ∙ shared-text joint.joined joint.halts;
        joins = joint.joins;
        ends = joint.are;
        done = end.is ∙ ap (λ e. (said_at e).status) joint.is ∙ shared-status (all_halted joint.halts);
        public = λ others agree. agreeing os ds others all.so.oblivious agree cycles;
        apart = none-overlaps os ds cycles all.so.are.fit (subst IsPlan all.so.are.planned all.so.plan) joint.joined
            joint.joins;
      }
