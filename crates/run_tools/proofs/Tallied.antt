-- Counts, event by event.
use Rattle.std.proofs.Common.{◌≡◌, ℕ, ◌+◌, ◌<◌, ◌^◌, ◌==◌, nat_lt, get_or, set, replicate, Bool, true, false, cond, List, [], ◌∷◌, ◌++◌, length, Option, Some, refl, sym, ap, ◌∙◌, subst, ⊎_elim, arith, append_assoc, lt-ltb, le-ltb}
use Rattle.std.proofs.Math.Nat.{min-eq_left}
use Rattle.std.proofs.lemmas.Bool.{cases_lt}
use Rattle.std.proofs.lemmas.Bool.Decides.{eqb_tells}
use Rattle.std.proofs.lemmas.List.{get_or-set_same, get_or-set_other, length-append, length-set, get_or-replicate, length-replicate}
use Rattle.std.proofs.lemmas.List.Sums.{count_by-le-length, sum_by_push}
use Rattle.lt_isa.specs.Prelude.{Observed, RamRead, RamWrite, EncRead, EncWrite, Oram, Halted, Stamped}
use Rattle.call_steps.specs.Prelude.{counted, how_many}
use Rattle.run_tools.specs.Prelude.{CountsEvents, CountsOneMore, access_counted, is_oram, is_ram_read, is_ram_write, is_eram_read, is_eram_write, orams_counted, Ends, CountedSoFar, observed_in, stamped_of, TakesNext}
use Rattle.run_tools.specs.declared.counting.Tally.{Tally}
use Rattle.run_tools.specs.declared.recorder.Recorded.{Recorded}
use Rattle.run_tools.proofs.Compared.{ends-next}
use Rattle.processor.specs.declared.ends.End.TheVariants as end

-- one event more of a kind, or of another
step-by : (b : Bool) (count number : ℕ) → count ≡ number → number + 1 < 2 ^ 32 → counted b count ≡ number + cond b 1 0
step-by true count number is small = min-eq_left (omega (arith, is, small)) ∙ ap (λ n. n + 1) is
step-by false count number is small = is ∙ omega arith

one-more : (kind : Observed → Bool) (count : ℕ) (done : List Stamped) (s : Stamped) → count ≡ how_many kind done
    → length done + 1 < 2 ^ 32 → counted (kind s.event) count ≡ how_many kind (done ++ s ∷ [])
one-more kind count done s is short =
    step-by (kind s.event) count (how_many kind done) is
    (let few = count_by-le-length (λ (t : Stamped). kind t.event) done in omega (arith, few, short))
    ∙ sym (sum_by_push (λ (t : Stamped). cond (kind t.event) 1 0) done s)

-- ---- the counts of oblivious banks

length-counted : (event : Observed) (orams : List ℕ) → length (orams_counted event orams) ≡ length orams
length-counted (Oram bank) orams = by (nat_lt bank (length orams))
  where
    by : (b : Bool) → length (cond b (set orams bank (counted true (get_or orams bank 0))) orams) ≡ length orams
    by true = length-set orams bank _
    by false = refl
length-counted other orams = refl

access-at : (bank : ℕ) (orams : List ℕ) (b : ℕ) → b < length orams
    → get_or (access_counted bank orams) b 0 ≡ counted (b == bank) (get_or orams b 0)
access-at bank orams b within =
    ⊎_elim
    (λ less. ap (λ c. get_or (cond c (set orams bank (counted true (get_or orams bank 0))) orams) b 0)
    (lt-ltb bank (length orams) less)
    ∙ ⊎_elim
    (λ (hit, is). ap (λ k. get_or (set orams bank (counted true (get_or orams bank 0))) k 0) is
    ∙ get_or-set_same orams bank _ 0 less ∙ ap (λ k. counted true (get_or orams k 0)) (sym is)
    ∙ ap (λ c. counted c (get_or orams b 0)) (sym hit))
    (λ (missed, other). get_or-set_other orams bank b _ 0 other ∙ ap (λ c. counted c (get_or orams b 0)) (sym missed))
    (eqb_tells b bank))
    (λ past. ap (λ c. get_or (cond c (set orams bank (counted true (get_or orams bank 0))) orams) b 0)
    (le-ltb bank (length orams) past)
    ∙ ⊎_elim
    (λ (hit, is). absurd (omega (arith, is, past, within)))
    (λ (missed, other). ap (λ c. counted c (get_or orams b 0)) (sym missed))
    (eqb_tells b bank))
    (cases_lt bank (length orams))

orams-at : (event : Observed) (orams : List ℕ) (b : ℕ) → b < length orams
    → get_or (orams_counted event orams) b 0 ≡ counted (is_oram b event) (get_or orams b 0)
orams-at (Oram bank) orams b within = access-at bank orams b within
orams-at other orams b within = refl

-- ---- one event more

pub orams-length : (before : Tally) (event : Recorded) (after : Tally) → CountsOneMore before event after
    → length after.orams.items ≡ length before.orams.items
orams-length before event after more =
    ap length more.orams ∙ length-counted (observed_in event.event) before.orams.items

counts-next : (before : Tally) (event : Recorded) (after : Tally) (done : List Stamped) → CountsEvents before done
    → CountsOneMore before event after → length done + 1 < 2 ^ 32 → CountsEvents after (done ++ stamped_of event ∷ [])
counts-next before event after done counts more short =
    let s = stamped_of event in
    record {
      ram_reads = more.ram_reads ∙ one-more is_ram_read before.ram_reads done s counts.ram_reads short;
      ram_writes = more.ram_writes ∙ one-more is_ram_write before.ram_writes done s counts.ram_writes short;
      eram_reads = more.eram_reads ∙ one-more is_eram_read before.eram_reads done s counts.eram_reads short;
      eram_writes = more.eram_writes ∙ one-more is_eram_write before.eram_writes done s counts.eram_writes short;
      orams = λ b within.
          let within' : b < length before.orams.items =
          let same = orams-length before event after more in omega (arith, same, within) in
          ap (λ l. get_or l b 0) more.orams
          ∙ orams-at (observed_in event.event) before.orams.items b within'
          ∙ one-more (is_oram b) (get_or before.orams.items b 0) done s (counts.orams b within') short;
      ends = subst (λ e. Ends (done ++ s ∷ []) e) (sym more.end) (ends-next done before.end event counts.ends);
    }

pub tallied-next : (events left left' : List Stamped) (before after : Tally) (event : Recorded)
    → CountedSoFar events left before → TakesNext left (Some event) left' → CountsOneMore before event after
    → length events < 2 ^ 32
    → CountedSoFar events left' after
tallied-next events left left' before after event so_far takes more short =
    let is : events ≡ so_far.done ++ stamped_of event ∷ left' = so_far.is ∙ ap (λ l. so_far.done ++ l) takes in
    record {
      done = so_far.done ++ stamped_of event ∷ [];
      is = is ∙ sym (append_assoc so_far.done (stamped_of event ∷ []) left');
      counts = counts-next before event after so_far.done so_far.counts more
          (let all = ap length is in let parts = length-append so_far.done (stamped_of event ∷ left') in
          omega (arith, all, parts, short));
    }

-- the same, where an event was found
pub tallied-found : (events left left' : List Stamped) (before after : Tally) (found : Option Recorded) (event : Recorded)
    → CountedSoFar events left before → TakesNext left found left' → found ≡ Some event
    → CountsOneMore before event after → length events < 2 ^ 32
    → CountedSoFar events left' after
tallied-found events left left' before after found event so_far takes is more short =
    let takes' : TakesNext left (Some event) left' = subst (λ e. TakesNext left e left') is takes in
    tallied-next events left left' before after event so_far takes' more short

zeros-at : (banks b none : ℕ) → b < banks → get_or (replicate banks none) b none ≡ none
zeros-at banks b none within = get_or-replicate banks b none none within

-- nothing was counted yet
pub tallied-begin : (events left : List Stamped) (tally : Tally) (banks : ℕ) → left ≡ events
    → tally.ram_reads ≡ 0 → tally.ram_writes ≡ 0 → tally.eram_reads ≡ 0 → tally.eram_writes ≡ 0
    → tally.orams.items ≡ replicate banks 0 → tally.end ≡ end.Spent
    → CountedSoFar events left tally
tallied-begin events left tally banks is ram_reads ram_writes eram_reads eram_writes orams ends = record {
  done = [];
  is = sym is;
  counts = record {
    ram_reads = ram_reads;
    ram_writes = ram_writes;
    eram_reads = eram_reads;
    eram_writes = eram_writes;
    orams = λ b within.
        ap (λ l. get_or l b 0) orams
        ∙ zeros-at banks b 0 (let all = ap length orams ∙ length-replicate banks 0 in omega (arith, all, within));
    ends = subst (λ e. Ends [] e) (sym ends) (λ at halts. omega (arith, halts.1));
  };
}
