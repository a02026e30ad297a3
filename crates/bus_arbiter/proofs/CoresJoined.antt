-- The joined list of the cores of a bus is the computed one.
use Rattle.std.proofs.Common.{◌≡◌, ℕ, zero, suc, List, [], ◌∷◌, length, map, Option, Some, None, refl, sym, ap, ap₂, subst, arith}
use Rattle.std.specs.Prelude.{slice_get}
use Rattle.bus_arbiter.specs.declared.shares.Share.{Share}
use Rattle.bus_arbiter.specs.Prelude.{AllStand, Core, trace_to, traces_to, Run, shown_to, IsPlan, share_at, share_of, IsJoined, joined_of}
use Rattle.bus_arbiter.proofs.JoinedLaws.{worked-out}

abbrev pub run_of : {B : Type 0} → Core B → Run
run_of c = record { object = c.machine.object; state = c.machine.state }

same-shares : {B : Type 0} (plan : List Share) (cores : List (Core B)) → length cores ≡ length plan
    → ((k : ℕ) (c : Core B) → slice_get cores k ≡ Some c → share_of c.machine.object ≡ share_at plan k)
    → map (λ (r : Run). share_of r.object) (map run_of cores) ≡ plan
same-shares [] [] count shares = refl
same-shares [] (c ∷ cores) count shares = absurd (omega (arith, count))
same-shares (s ∷ plan) [] count shares = absurd (omega (arith, count))
same-shares (s ∷ plan) (c ∷ cores) count shares =
    ap₂ (λ (x : Share) (l : List Share). x ∷ l) (shares 0 c refl)
    (same-shares plan cores (omega (arith, count)) (λ k d there. shares (suc k) d there))

same-traces : {B : Type 0} (cores : List (Core B)) (n : ℕ) → map (shown_to n) (map run_of cores) ≡ traces_to cores n
same-traces [] n = refl
same-traces (c ∷ cores) n = ap (λ l. trace_to c n ∷ l) (same-traces cores n)

-- a run is that of the core at its place
record OfCore {B : Type 0} (cores : List (Core B)) (k : ℕ) (r : Run) : Type 0 where
  core : Core B
  there : slice_get cores k ≡ Some core
  is : r ≡ run_of core

of-core : {B : Type 0} (cores : List (Core B)) (k : ℕ) (r : Run) → slice_get (map run_of cores) k ≡ Some r
    → OfCore cores k r
of-core [] k r there = absurd (let f : ◌≡◌ {A = Option Run} None (Some r) = there in cc)
of-core (c ∷ cores) zero r there = record { core = c; there = refl; is = let f = there in cc }
of-core (c ∷ cores) (suc k) r there =
    let found = of-core cores k r there in record { core = found.core; there = found.there; is = found.is }

pub cores-joined : {B : Type 0} (plan : List Share) (cores : List (Core B)) → IsPlan plan
    → length cores ≡ length plan → AllStand plan cores → (n : ℕ)
    → IsJoined (traces_to cores n) (joined_of (traces_to cores n))
cores-joined plan cores fits count stand n =
    subst (λ traces. IsJoined traces (joined_of traces)) (same-traces cores n)
    (worked-out (map run_of cores) (record {
      plan = subst IsPlan (sym (same-shares plan cores count (λ k c there. (stand.each k c there).share))) fits;
      in_range = λ k r there.
          let found = of-core cores k r there in
          rw (found.is) (stand.each k found.core found.there).in_range;
      shaped = λ k r there.
          let found = of-core cores k r there in
          rw (found.is) (stand.each k found.core found.there).shaped;
    }) n)
